-- The bytes of a saved text are read as its trees, and what comes after them is left.
use Rattle.std.proofs.Common.{◌≡◌, ◌≢◌, ℕ, true, List, [], ◌∷◌}
use Rattle.std.proofs.Common.{◌++◌, map, drop, get_or, Option, Some, None, Ok, refl, sym, ap, ap₂}
use Rattle.std.proofs.Common.{◌∙◌, subst, append-nil}
use Rattle.std.specs.Prelude.{is_ok}
use Rattle.std.specs.List.{flat_map}
use Rattle.std.proofs.lemmas.List.Concat.{flat_map-append}
use Rattle.league_core.specs.declared.sheet.Sheet.{Sheet}
use Rattle.league_core.specs.declared.question.Question.{Question}
use Rattle.league_core.specs.game.Results.{Results}
use Rattle.league_core.specs.game.Sheets.{IsWithinLimits}
use Rattle.league_core.specs.search.Trees.{Tree}
use Rattle.port_core.specs.Lines.{lines_of}
use Rattle.port_core.specs.Contents.{Contents, Position, contents_from, with_lines}
use Rattle.cert_text.specs.declared.proof_line.ProofLine.{ProofLine}
use Rattle.cert_text.specs.Rows.{text_of_row}
use Rattle.cert_text.specs.TreeLines.{marked_lines}
use Rattle.line_tokens.specs.declared.token.Token.{Token}
use Rattle.line_tokens.specs.declared.token.Token.TheVariants.{Row, Proof}
use Rattle.line_tokens.specs.Tokens.{token_of, counted_lines}
use Rattle.report_lines.specs.inside.WrittenReports.{written}
use Rattle.report_lines.proofs.BodyLemmas.{HaveBodies}
use Rattle.report_lines.proofs.WrittenLemmas.{is_ok_ending, lines_given}
use Rattle.report_lines.proofs.WrittenLemmas.{position_behind}
use Rattle.answer_rows.specs.AskedQuestions.{questions_of}
use Rattle.answer_rows.proofs.AskedLemmas.{all_are_asked}
use Rattle.pool_save.specs.SavedTexts.{AreSavedTrees, AreTreesOf}
use Rattle.pool_save.specs.SavedTexts.{end_fields, lines_of_saved, saved_fields}
use Rattle.pool_save.specs.SavedTexts.{saved_items_of}
use Rattle.pool_save.specs.SavedReadings.{nothing_saved, saved_reading_of}
use Rattle.pool_save.specs.inside.SavedLaws.{tokens_of_lines}
use Rattle.pool_save.specs.SavedItems.{IsSavedOf}
use Rattle.pool_save.specs.inside.SavedBytes.{AreTreesOfText, IsTreeOfItem, position_past}
use Rattle.pool_save.proofs.ItemBodyLemmas.{end_row_body, have-append}
use Rattle.pool_save.proofs.OwnRowLemmas.{questions_have_own_rows}
use Rattle.pool_save.proofs.SavedBackLemmas.{saved_is_read}
use Rattle.pool_save.proofs.ItemBytesLemmas.{trees_of_items}

-- ---- lines that count

counted-proofs : (lines : List ProofLine) (rest : List Token)
    → counted_lines (map Proof lines ++ rest) ≡ map Proof lines ++ counted_lines rest
counted-proofs [] rest = refl
counted-proofs (line ∷ lines) rest =
    ap (λ tokens. Proof line ∷ tokens) (counted-proofs lines rest)

counted-items : (sheet : Sheet) (asked : List Question) (trees : List (Option Tree))
    → counted_lines (saved_items_of sheet asked trees) ≡ saved_items_of sheet asked trees
counted-items sheet [] trees = refl
counted-items sheet (question ∷ asked) [] = refl
counted-items sheet (question ∷ asked) (None ∷ trees) = counted-items sheet asked trees
counted-items sheet (question ∷ asked) (Some tree ∷ trees) =
    ap (λ tokens. Row (saved_fields sheet question) ∷ tokens)
    (counted-proofs (marked_lines tree) (saved_items_of sheet asked trees)
    ∙ ap (λ tokens. map Proof (marked_lines tree) ++ tokens) (counted-items sheet asked trees))

-- trees of items may be saved
trees_may_be : (sheet : Sheet) (season : Results) (asked : List Question)
    (trees : List (Option Tree)) → AreTreesOf (IsTreeOfItem sheet season) asked trees
    → AreSavedTrees sheet asked trees
trees_may_be sheet season [] [] are = tt
trees_may_be sheet season [] (tree ∷ trees) are = are
trees_may_be sheet season (question ∷ asked) [] are = are
trees_may_be sheet season (question ∷ asked) (None ∷ trees) are =
    (tt, trees_may_be sheet season asked trees are.1)
trees_may_be sheet season (question ∷ asked) (Some tree ∷ trees) are =
    (are.0.0, trees_may_be sheet season asked trees are.1)

-- ---- the line after them

-- lines that are these tokens, and a last one that is another
record EndsWith (lines : List (ℕ × List ℕ)) (tokens : List Token) (token : Token) : Type 0 where
  front : List (ℕ × List ℕ)
  last : ℕ × List ℕ
  all : lines ≡ front ++ last ∷ []
  reads_front : tokens_of_lines front ≡ tokens
  reads_last : token_of last.1 ≡ token

ends_with : (tokens : List Token) (lines : List (ℕ × List ℕ)) (token : Token)
    → tokens_of_lines lines ≡ tokens ++ token ∷ [] → EndsWith lines tokens token
ends_with [] [] token is = absurd cc
ends_with [] (line ∷ []) token is = record {
  front = [];
  last = line;
  all = refl;
  reads_front = refl;
  reads_last = ap (λ told. get_or told 0 token) is;
}
ends_with [] (line ∷ next ∷ lines) token is = absurd cc
ends_with (first ∷ tokens) [] token is = absurd cc
ends_with (first ∷ tokens) (line ∷ lines) token is =
    let later = ends_with tokens lines token (ap (drop 1) is) in
    let here : token_of line.1 ≡ first = ap (λ told. get_or told 0 token) is in
    record {
      front = line ∷ later.front;
      last = later.last;
      all = ap (λ rest. line ∷ rest) later.all;
      reads_front = λ i. here i ∷ later.reads_front i;
      reads_last = later.reads_last;
    }

-- ---- a whole text

-- what is read of the bytes of these trees' items and the line after them
abbrev ReadsTrees : Sheet → List (Option Tree) → Position → List ℕ → List ℕ → Type 0
ReadsTrees sheet trees position after text =
    saved_reading_of sheet (questions_of sheet)
    (contents_from position (lines_of (text ++ after))) nothing_saved
    ≡ record {
      gives = Ok trees;
      rest = contents_from (position_past sheet trees text position) (lines_of after);
    }

trees_are_read : (sheet : Sheet) (trees : List (Option Tree)) (after : List ℕ)
    (position : Position) → IsWithinLimits sheet → AreSavedTrees sheet (questions_of sheet) trees
    → HaveBodies (saved_items_of sheet (questions_of sheet) trees) → position.lines ≢ 0
    → is_ok_ending (contents_from position
    (lines_of (flat_map written (lines_of_saved sheet (questions_of sheet) trees) ++ after)))
    ≡ true
    → ReadsTrees sheet trees position after
    (flat_map written (lines_of_saved sheet (questions_of sheet) trees))
trees_are_read sheet trees after position limits may_be bodies behind ends =
    let asked = questions_of sheet in
    let items = saved_items_of sheet asked trees in
    let told = lines_of_saved sheet asked trees in
    let given = lines_given told position after
    (have-append items (Row end_fields ∷ []) bodies (end_row_body, tt)) behind ends in
    let split = ends_with items given.lines (Row end_fields) given.tokens in
    let rest = contents_from (position_behind position told) (lines_of after) in
    ap (λ (contents : Contents). saved_reading_of sheet asked contents nothing_saved)
    (given.all ∙ ap (λ (lines : List (ℕ × List ℕ)). with_lines lines rest) split.all)
    ∙ saved_is_read sheet asked trees split.front split.last rest
    (questions_have_own_rows sheet limits) may_be
    (ap counted_lines split.reads_front ∙ counted-items sheet asked trees) split.reads_last

pub written_text_is_read : (sheet : Sheet) (season : Results) (text after : List ℕ)
    (position : Position)
    → IsWithinLimits sheet → IsSavedOf sheet season text → position.lines ≢ 0
    → is_ok (contents_from position (lines_of (text ++ after))).ending ≡ true
    → (trees : List (Option Tree)) × AreTreesOfText sheet season trees text
    × ReadsTrees sheet trees position after text
written_text_is_read sheet season text after position limits saved behind ends =
    let asked = questions_of sheet in
    let has = trees_of_items sheet season asked saved.items limits (all_are_asked sheet limits)
    saved.each in
    let items = saved_items_of sheet asked has.trees in
    let bytes_are : text ≡ flat_map written (lines_of_saved sheet asked has.trees) =
    saved.lines ∙ ap₂ (λ (one two : List ℕ). one ++ two) has.bytes
    (sym (append-nil (text_of_row end_fields)))
    ∙ sym (flat_map-append written items (Row end_fields ∷ [])) in
    let Ends : List ℕ → Type 0 =
    λ bytes. is_ok_ending (contents_from position (lines_of (bytes ++ after))) ≡ true in (
      has.trees,
      record { each = has.each; all = has.all; bytes = bytes_are },
      subst (ReadsTrees sheet has.trees position after) (sym bytes_are)
          (trees_are_read sheet has.trees after position limits
          (trees_may_be sheet season asked has.trees has.each) has.bodies behind
          (subst Ends bytes_are ends)),
    )
