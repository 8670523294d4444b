-- The text of one answer is the bytes of lines that are read as one whole part of a report.
use Rattle.std.proofs.Common.{◌≡◌, ℕ, ◌+◌, ◌≤◌, Bool, true, nat_le, nat_lt, List, [], ◌∷◌, ◌++◌}
use Rattle.std.proofs.Common.{map, length, refl, sym, ap, ap₂, subst, ◌∙◌, append_assoc, arith}
use Rattle.std.specs.Prelude.{codes, decimal}
use Rattle.std.specs.List.{list_all, flat_map, range_with_len}
use Rattle.std.proofs.lemmas.Bool.{and_parts, and_from, ltb-true, lt-ltb}
use Rattle.std.proofs.lemmas.List.Folds.{list_all-append}
use Rattle.league_core.specs.game.Results.{are_results}
use Rattle.league_core.specs.game.Seasons.{IsLeague}
use Rattle.league_core.specs.game.Sheets.{is_line}
use Rattle.cert_text.specs.Rows.{text_of_row}
use Rattle.wide_lines.specs.declared.wide_line.WideLine.{WideLine}
use Rattle.wide_lines.specs.declared.wide_line.WideLine.TheVariants.{Plain, Near, NewNear}
use Rattle.line_tokens.specs.declared.token.Token.{Token}
use Rattle.line_tokens.specs.LineRanges.{name_of_club}
use Rattle.line_tokens.specs.Tokens.{token_of_wide}
use Rattle.cert_check.specs.ExpectedItems.{Basis, Expected}
use Rattle.line_tokens.specs.RowFields.{text_of_word}
use Rattle.cert_check.specs.inside.Answers.{ShownItem, ShowsWord, AreShown, item_tokens, row_due}
use Rattle.cert_check.specs.inside.Answers.{unsettled_items}
use Rattle.cert_check.specs.inside.Calls.{unsettled_in}
use Rattle.wide_lines.specs.WideTexts.{text_of_wide_line}
use Rattle.report_lines.specs.inside.WrittenReports.{written}
use Rattle.report_lines.proofs.KeptLemmas.{text-kept}
use Rattle.report_lines.proofs.KeptWideLemmas.{kept_wide_line}
use Rattle.report_lines.proofs.WithinLemmas.{names_fit}
use Rattle.answer_rows.specs.declared.word.Word.{Word}
use Rattle.answer_rows.specs.declared.word.Word.TheVariants.{Clinched, Lost, Possible, Unsettled}
use Rattle.answer_rows.specs.Items.{AnswerRow, answer_rows, answer_rows_of}
use Rattle.answer_rows.specs.Parts.{IsMadeOf, club_name}
use Rattle.answer_rows.specs.Rows.{line_row, verdict_row, word_text}
use Rattle.decide_run.specs.DecidedTexts.{text_of_wide_lines}
use Rattle.report_laws.specs.inside.AcceptedAnswers.{row_word, unsettled_one}
use Rattle.report_laws.specs.inside.AcceptedTexts.{unsettled_made}
use Rattle.report_laws.proofs.BriefLemmas.{word-brief}
use Rattle.report_laws.proofs.ItemLemmas.{due_of_row}
use Rattle.report_laws.proofs.KeptItemLemmas.{word-kept}
use Rattle.report_laws.proofs.PutLemmas.{ArePut, lines-put, put-append, verdict-put}

-- ---- the lines of one item

words_same : (said : Word) → word_text said ≡ text_of_word (row_word said)
words_same Clinched = refl
words_same Lost = refl
words_same Possible = refl
words_same Unsettled = refl

-- the bytes of a line as a type holds it are its row
line-bytes : (shown : WideLine)
    → written (token_of_wide (kept_wide_line shown)) ≡ line_row text_of_wide_line shown
line-bytes (Plain shown) = ap (λ (text : List ℕ). text ++ 10 ∷ []) (text-kept shown)
line-bytes (Near rival) = refl
line-bytes (NewNear rival) = refl

-- those of all lines are their text
lines-bytes : (lines : List WideLine)
    → flat_map written (map token_of_wide (map kept_wide_line lines)) ≡ text_of_wide_lines lines
lines-bytes [] = refl
lines-bytes (shown ∷ lines) =
    ap₂ (λ (first rest : List ℕ). first ++ rest) (line-bytes shown) (lines-bytes lines)

-- the bytes of lines after others
pub bytes-append : (front back : List Token)
    → flat_map written (front ++ back) ≡ flat_map written front ++ flat_map written back
bytes-append [] back = refl
bytes-append (first ∷ front) back =
    ap (λ (rest : List ℕ). written first ++ rest) (bytes-append front back)
    ∙ sym (append_assoc (written first) (flat_map written front) (flat_map written back))

-- ---- all items of an answer

-- the words are counted alike
counted_same : (said : Word) → unsettled_in (row_word said) ≡ unsettled_one said
counted_same Clinched = refl
counted_same Lost = refl
counted_same Possible = refl
counted_same Unsettled = refl

-- a text of items, so many of them unsettled, as the lines of shown items
pub record ItemsRead (basis : Basis) (rows : List AnswerRow) (unsettled : ℕ) (text : List ℕ)
    : Type 0 where
  pub items : List ShownItem
  pub counted : unsettled_items items ≡ unsettled
  pub dues : map row_due items ≡ map due_of_row rows
  pub shown : AreShown basis items
  pub bytes : text ≡ flat_map written (flat_map (item_tokens basis) items)
  pub put : ArePut (flat_map (item_tokens basis) items)

-- the text of an item: a word of a line and a club, and lines that show it
pub record ItemTold (basis : Basis) (about : AnswerRow) (said : Word) (text : List ℕ)
    : Type 0 where
  pub lines : List WideLine
  pub shown : ShowsWord basis about.line about.club (row_word said) lines
  pub bytes : text ≡ verdict_row about.line (club_name basis.sheet about.club) said
      ++ text_of_wide_lines lines

module _ (basis : Basis) (league : IsLeague basis.sheet basis.season)
    (results : are_results basis.season ≡ true) where
  -- one item, and the others after it
  item-read : (about : AnswerRow) (rows : List AnswerRow) (said : Word) (part rest : List ℕ)
      (unsettled : ℕ) → nat_lt about.line 24 ≡ true → ItemTold basis about said part
      → ItemsRead basis rows unsettled rest
      → ItemsRead basis (about ∷ rows) (unsettled_one said + unsettled) (part ++ rest)
  item-read about rows said part rest unsettled known told behind =
      let lines = map kept_wide_line told.lines in
      let kept = word-kept basis about.line about.club (row_word said) told.lines told.shown in
      let item : ShownItem = record {
        line = about.line;
        club = about.club;
        word = row_word said;
        lines = lines;
      } in
      let name = names_fit basis.sheet.clubs about.club league.limits.clubs in
      let below = ltb-true about.line 24 known in
      let others = flat_map (item_tokens basis) behind.items in
      record {
        items = item ∷ behind.items;
        counted = ap₂ (λ (here others : ℕ). here + others) (counted_same said) behind.counted;
        dues = ap (λ (dues : List Expected). row_due item ∷ dues) behind.dues;
        shown = (kept, behind.shown);
        bytes = ap₂ (λ (front back : List ℕ). front ++ back)
            (told.bytes
            ∙ ap₂ (λ (word shown : List ℕ).
            text_of_row (codes "verdict" ∷ decimal about.line
            ∷ name_of_club basis.sheet about.club ∷ word ∷ []) ++ shown)
            (words_same said) (sym (lines-bytes told.lines)))
            behind.bytes
            ∙ sym (bytes-append (item_tokens basis item) others);
        put = put-append (item_tokens basis item) others (
          verdict-put about.line (name_of_club basis.sheet about.club) (row_word said)
              (omega (arith, below)) name,
          lines-put told.lines
              (word-brief basis league results about.line about.club (row_word said) lines kept),
        ) behind.put;
      }

  -- the items of these rows, if each text of this form is that of an item with this word
  items-read : (IsItem : AnswerRow → List ℕ → Type 0)
      (word_of : (about : AnswerRow) (text : List ℕ) → IsItem about text → Word)
      → ((about : AnswerRow) (text : List ℕ) (item : IsItem about text)
      → ItemTold basis about (word_of about text item) text)
      → (rows : List AnswerRow) (text : List ℕ)
      → list_all (λ (about : AnswerRow). nat_lt about.line 24) rows ≡ true
      → (made : IsMadeOf IsItem rows text)
      → ItemsRead basis rows (unsettled_made IsItem word_of rows text made) text
  items-read IsItem word_of told [] text all made = record {
    items = [];
    counted = refl;
    dues = refl;
    shown = tt;
    bytes = made;
    put = tt;
  }
  items-read IsItem word_of told (about ∷ rows) text all made =
      let parts = and_parts (nat_lt about.line 24)
      (list_all (λ (row : AnswerRow). nat_lt row.line 24) rows) all in
      let said = word_of about made.0 made.3 in
      let others = unsettled_made IsItem word_of rows made.1 made.4 in
      subst (ItemsRead basis (about ∷ rows) (unsettled_one said + others)) (sym made.2)
      (item-read about rows said made.0 made.1 others parts.0 (told about made.0 made.3)
      (items-read IsItem word_of told rows made.1 parts.1 made.4))

-- the rows of an answer are about lines of the sheet
rows-known : (clubs : ℕ) (lines : List ℕ) → clubs ≤ 24 → list_all (is_line clubs) lines ≡ true
    → list_all (λ (about : AnswerRow). nat_lt about.line 24)
    (flat_map (answer_rows_of clubs) lines) ≡ true
rows-known clubs [] few all = refl
rows-known clubs (number ∷ lines) few all =
    let test : AnswerRow → Bool = λ about. nat_lt about.line 24 in
    let parts = and_parts (is_line clubs number) (list_all (is_line clubs) lines) all in
    let below = ltb-true number clubs
    (and_parts (nat_le 1 number) (nat_lt number clubs) parts.0).1 in
    list_all-append test (answer_rows_of clubs number) (flat_map (answer_rows_of clubs) lines)
    ∙ and_from (list_all test (answer_rows_of clubs number))
    (list_all test (flat_map (answer_rows_of clubs) lines))
    (on_line (range_with_len 0 clubs) (lt-ltb number 24 (omega (arith, below, few))))
    (rows-known clubs lines few parts.1)
  where
    on_line : (list : List ℕ) → nat_lt number 24 ≡ true
        → list_all (λ (about : AnswerRow). nat_lt about.line 24)
        (map (λ (club : ℕ). record { line = number; club = club }) list) ≡ true
    on_line [] known = refl
    on_line (club ∷ list) known =
        and_from (nat_lt number 24) _ known (on_line list known)

-- the items of an answer
pub answer_items : (basis : Basis) (IsItem : AnswerRow → List ℕ → Type 0)
    (word_of : (about : AnswerRow) (text : List ℕ) → IsItem about text → Word) (text : List ℕ)
    → IsLeague basis.sheet basis.season → are_results basis.season ≡ true
    → ((about : AnswerRow) (text : List ℕ) (item : IsItem about text)
    → ItemTold basis about (word_of about text item) text)
    → (made : IsMadeOf IsItem (answer_rows basis.sheet) text)
    → ItemsRead basis (answer_rows basis.sheet)
    (unsettled_made IsItem word_of (answer_rows basis.sheet) text made) text
answer_items basis IsItem word_of text league results told made =
    let sheet = basis.sheet in
    items-read basis league results IsItem word_of told (answer_rows sheet) text
    (rows-known (length sheet.clubs) sheet.lines league.limits.most_clubs league.limits.lines)
    made
