-- The text of an answer of a cup is the bytes of one part of a report, which is read as whole.
use Rattle.std.proofs.Common.{◌≡◌, ◌≤◌, ℕ, suc, ◌+◌, true, List, [], ◌∷◌}
use Rattle.std.proofs.Common.{◌++◌, length, map, refl, sym, ap, ◌∙◌, arith}
use Rattle.std.specs.Prelude.{All, codes, decimal}
use Rattle.std.specs.List.{flat_map, list_all, range_with_len}
use Rattle.std.proofs.lemmas.Bool.{and_from}
use Rattle.std.proofs.lemmas.List.Folds.{list_all-append}
use Rattle.std.proofs.lemmas.Grind.{flat_map-append}
use Rattle.league_core.specs.declared.sheet.Sheet.{Sheet}
use Rattle.league_core.specs.game.Limits.{most_events}
use Rattle.league_core.specs.game.Sheets.{is_club}
use Rattle.cert_text.specs.Rows.{text_of_row}
use Rattle.cert_check.specs.LineGrammars.{whole_at}
use Rattle.cert_check.specs.inside.Calls.{unsettled_in}
use Rattle.line_tokens.specs.declared.row_word.RowWord.{RowWord}
use Rattle.line_tokens.specs.declared.row_word.RowWord.TheVariants as said
use Rattle.line_tokens.specs.RowFields.{ask_fields, text_of_word, verdict_fields}
use Rattle.report_lines.proofs.WithinLemmas.{IsRowName, names_fit}
use Rattle.answer_rows.specs.declared.word.Word.{Word}
use Rattle.answer_rows.specs.declared.word.Word.TheVariants.{Clinched, Lost, Possible, Unsettled}
use Rattle.answer_rows.specs.Parts.{IsMadeOf}
use Rattle.answer_rows.specs.Rows.{ask_row, verdict_row, word_text}
use Rattle.cup_sheet.specs.declared.cup.Cup.{Cup}
use Rattle.cup_sheet.specs.Cups.{AreSeasonsOf, IsCup, IsGroup, clubs_of_groups, clubs_together}
use Rattle.cup_laws.specs.inside.CupTruths.{AreCupResults}
use Rattle.cup_text.specs.declared.cup_line.CupLine.{CupLine}
use Rattle.cup_text.specs.CupItems.{cup_club_name}
use Rattle.cup_answers.specs.CupTexts.{IsCupItemText, IsGroupsText, ShowsInCup}
use Rattle.cup_answers.specs.CupTexts.{cup_line_row, text_of_cup_lines}
use Rattle.cup_grammar.specs.declared.token.CupToken.{CupToken}
use Rattle.cup_grammar.specs.declared.token.CupToken.TheVariants.{Proof, Row}
use Rattle.cup_grammar.specs.PlacedGroups.{CupBasis}
use Rattle.cup_grammar.specs.CupReports.{cup_ending_of, part_of_cup_ask}
use Rattle.cup_grammar.specs.inside.WrittenCupItems.{AreWrittenClubs, IsWrittenOfClub}
use Rattle.cup_grammar.proofs.WrittenAnswerLemmas.{answer_in_cup_accepted}
use Rattle.report_laws.specs.inside.AcceptedAnswers.{unsettled_one}
use Rattle.report_laws.specs.inside.WrittenCupReports.{unsettled_clubs}
use Rattle.report_laws.specs.inside.WrittenCupReports.{unsettled_in_answer}
use Rattle.report_laws.proofs.CupBodyLemmas.{HaveCupBodies, ask-body, bodies-append}
use Rattle.report_laws.proofs.CupBodyLemmas.{cup_written, line-bodies, verdict-body}
use Rattle.report_laws.proofs.ShownFormLemmas.{shown_have_forms}
use Rattle.report_laws.proofs.ShownSizeLemmas.{shown_are_short}

-- ---- words and names

-- the word of a row for the word of a verdict
said_of : Word → RowWord
said_of Clinched = said.Clinched
said_of Lost = said.Lost
said_of Possible = said.Possible
said_of Unsettled = said.Unsettled

same_text : (word : Word) → word_text word ≡ text_of_word (said_of word)
unfolding said_of
same_text Clinched = refl
same_text Lost = refl
same_text Possible = refl
same_text Unsettled = refl

same_count : (word : Word) → unsettled_one word ≡ unsettled_in (said_of word)
unfolding said_of
same_count Clinched = refl
same_count Lost = refl
same_count Possible = refl
same_count Unsettled = refl

-- each club of a cup may be one
clubs_fit : (goal_limit budget : ℕ) (groups : List Sheet) → All (IsGroup goal_limit budget) groups
    → list_all is_club (clubs_of_groups groups) ≡ true
clubs_fit goal_limit budget [] all = refl
clubs_fit goal_limit budget (group ∷ groups) all =
    list_all-append is_club group.clubs (clubs_of_groups groups)
    ∙ and_from (list_all is_club group.clubs) (list_all is_club (clubs_of_groups groups))
    (all 0 group (omega arith)).limits.clubs
    (clubs_fit goal_limit budget groups (λ k d inside. all (suc k) d (omega (arith, inside))))

name_fits : (cup : Cup) (club : ℕ) → IsCup cup
    → IsRowName (cup_club_name cup club)
name_fits cup club is =
    names_fit (clubs_of_groups cup.groups) club
    (clubs_fit is.groups.0 is.groups.1 cup.groups is.groups.2)

-- ---- one club

-- proof lines are written one after another
lines_written : (lines : List CupLine)
    → flat_map cup_written (map Proof lines) ≡ text_of_cup_lines lines
lines_written [] = refl
lines_written (line ∷ lines) = ap (λ rest. cup_line_row line ++ rest) (lines_written lines)

-- what shows a word is what is written of it
written_of : (basis : CupBasis) (club : ℕ) (word : Word) (lines : List CupLine)
    → ShowsInCup true basis.cup basis.seasons club word lines
    → IsWrittenOfClub basis club (said_of word) lines
unfolding said_of
written_of basis club Clinched lines shows = (shows.1.0, shows.1.2)
written_of basis club Lost lines shows = (shows.1.0, shows.1.2)
written_of basis club Possible lines shows = shows.1
written_of basis club Unsettled lines shows = shows

-- ---- all clubs

-- a text as the lines of these clubs
record ClubsRead (basis : CupBasis) (clubs : List ℕ) (text : List ℕ) (unsettled : ℕ) : Type 0 where
  tokens : List CupToken
  are : AreWrittenClubs basis clubs tokens unsettled
  bytes : text ≡ flat_map cup_written tokens
  bodies : HaveCupBodies tokens

module _ (basis : CupBasis) (is_cup : IsCup basis.cup)
    (of_groups : AreSeasonsOf basis.cup.groups basis.seasons)
    (results : AreCupResults basis.seasons) where
  clubs_read : (clubs : List ℕ) (text : List ℕ)
      (made : IsMadeOf (IsCupItemText true basis.cup basis.seasons) clubs text)
      → ClubsRead basis clubs text (unsettled_clubs basis.cup basis.seasons clubs text made)
  clubs_read [] text made = record {
    tokens = [];
    are = (refl, refl);
    bytes = made;
    bodies = tt;
  }
  clubs_read (club ∷ clubs) text made =
      let word = made.3.0 in
      let lines = made.3.1 in
      let shows = made.3.2 in
      let name = cup_club_name basis.cup club in
      let behind = clubs_read clubs made.1 made.4 in
      let row : CupToken = Row (verdict_fields basis.cup.quota name (said_of word)) in
      let item = row ∷ map Proof lines in
      let small = is_cup.most_quota in
      let few = is_cup.most_groups in
      let told : verdict_row basis.cup.quota name word ≡ cup_written row =
      ap (λ text. text_of_row
      (codes "verdict" ∷ decimal basis.cup.quota ∷ name ∷ text ∷ [])) (same_text word) in
      let part : made.0 ≡ flat_map cup_written item =
      made.3.3 ∙ ap (λ front. front ++ text_of_cup_lines lines) told
      ∙ ap (λ back. cup_written row ++ back) (sym (lines_written lines)) in
      record {
        tokens = item ++ behind.tokens;
        are = (
          said_of word,
          lines,
          behind.tokens,
          unsettled_clubs basis.cup basis.seasons clubs made.1 made.4,
          written_of basis club word lines shows,
          behind.are,
          refl,
          ap (λ n. n + unsettled_clubs basis.cup basis.seasons clubs made.1 made.4)
              (same_count word),
        );
        bytes = made.2 ∙ ap (λ front. front ++ made.1) part
            ∙ ap (λ back. flat_map cup_written item ++ back) behind.bytes
            ∙ sym (flat_map-append cup_written item behind.tokens);
        bodies = (
          verdict-body basis.cup.quota name (said_of word) (omega (arith, small, few))
              (name_fits basis.cup club is_cup),
          bodies-append (map Proof lines) behind.tokens
              (line-bodies lines
              (shown_have_forms basis.cup basis.seasons club word lines is_cup of_groups results
              shows)
              (shown_are_short basis.cup basis.seasons club word lines is_cup of_groups results
              shows))
              behind.bodies,
        );
      }

-- ---- one answer

-- a text as the lines of one part, which is read as whole
pub record CupAnswerRead (basis : CupBasis) (text : List ℕ) (unsettled : ℕ) : Type 0 where
  pub tokens : List CupToken
  pub whole : (rest : List CupToken) (at : ℕ)
      → cup_ending_of basis (tokens ++ rest) (part_of_cup_ask basis.cup) at 0
      ≡ whole_at (at + length tokens) unsettled
  pub bytes : text ≡ flat_map cup_written tokens
  pub bodies : HaveCupBodies tokens

pub cup_answer_read : (basis : CupBasis) (text : List ℕ) → IsCup basis.cup
    → AreSeasonsOf basis.cup.groups basis.seasons → AreCupResults basis.seasons
    → basis.epoch ≤ most_events
    → (told : IsGroupsText true basis.cup basis.seasons basis.epoch text)
    → CupAnswerRead basis text
    (unsettled_in_answer basis.cup basis.seasons basis.epoch text told)
cup_answer_read basis text is_cup of_groups results few told =
    let clubs = range_with_len 0 (clubs_together basis.cup.groups) in
    let found = clubs_read basis is_cup of_groups results clubs told.0 told.1 in
    let unsettled = unsettled_in_answer basis.cup basis.seasons basis.epoch text told in
    record {
      tokens = Row (ask_fields basis.epoch) ∷ found.tokens;
      whole = λ rest at.
          answer_in_cup_accepted basis found.tokens rest at unsettled is_cup of_groups results
          found.are
          ∙ ap (λ next. whole_at next unsettled) (omega arith);
      bytes = told.2 ∙ ap (λ back. ask_row basis.epoch ++ back) found.bytes;
      bodies = (ask-body basis.epoch (omega (arith, few)), found.bodies);
    }
