-- Each line leaves due what can be met, if it was read for what can; and all that an answer is made
-- of can be.
use Rattle.std.proofs.Common.{◌≡◌, ℕ, Bool, true, List, [], ◌∷◌}
use Rattle.std.proofs.Common.{Option, Some, None, refl, ◌∙◌, arith}
use Rattle.std.specs.List.{range_with_len}
use Rattle.std.proofs.lemmas.Bool.{and_from, lt-ltb}
use Rattle.std.proofs.lemmas.List.Folds.{list_all-map}
use Rattle.league_core.specs.declared.question.Claim.TheVariants.{Inside, Outside}
use Rattle.league_core.proofs.plain.Runs.{all_in_range}
use Rattle.line_tokens.specs.declared.row_word.RowWord.{RowWord}
use Rattle.line_tokens.specs.declared.row_word.RowWord.TheVariants as word
use Rattle.cert_check.specs.ExpectedItems.{is_ask_row}
use Rattle.cert_check.specs.ExpectedItems.{word_in_row}
use Rattle.cert_check.specs.LineGrammars.{go}
use Rattle.cert_check.proofs.NextLemmas.{bad-go}
use Rattle.cup_sheet.specs.Cups.{clubs_together}
use Rattle.cup_text.specs.declared.cup_line.CupLine.{CupLine}
use Rattle.cup_text.specs.CupItems.{cup_club_name}
use Rattle.cup_grammar.specs.declared.token.CupToken.{CupToken}
use Rattle.cup_grammar.specs.declared.token.CupToken.TheVariants.{Blank, Row, Proof, Unknown}
use Rattle.cup_grammar.specs.PlacedGroups.{CupBasis, group_with}
use Rattle.cup_grammar.specs.PlacedGroups.{own_node}
use Rattle.cup_grammar.specs.PlacedGroups.{placed_groups}
use Rattle.cup_grammar.specs.CupDues.{CupDue}
use Rattle.cup_grammar.specs.CupDues.{ask_row}
use Rattle.cup_grammar.specs.CupDues.{both_parts, club_row}
use Rattle.cup_grammar.specs.CupDues.{finish_head, groups_line}
use Rattle.cup_grammar.specs.CupDues.{key_line, lots, nodes, one_part}
use Rattle.cup_grammar.specs.CupDues.{score}
use Rattle.cup_grammar.specs.CupDues.{spent_head, tree_head}
use Rattle.cup_grammar.specs.CupExpected.{after_cup_proof, after_cup_row, after_in_cup}
use Rattle.cup_grammar.specs.CupExpected.{promised_of_club}
use Rattle.cup_grammar.specs.CupReports.{part_of_cup_ask}
use Rattle.cup_stops.specs.inside.CupStops.{can_be_met, is_club_of_cup}
use Rattle.cup_stops.proofs.KeptDueLemmas.{AreMet, both_keep, finish_keeps, head_keeps, key_keeps}
use Rattle.cup_stops.proofs.KeptDueLemmas.{left_met, listed_keeps, lots_keep, node_keeps}
use Rattle.cup_stops.proofs.KeptDueLemmas.{one_keeps, score_keeps, spent_keeps, tested_met}

module _ (basis : CupBasis) where
  -- ---- rows, and any line

  word_keeps : (club : ℕ) (found : Option RowWord) (holds : Bool) (more : List CupDue)
      → is_club_of_cup basis club ≡ true → promised_of_club club found ≡ go holds more
      → AreMet basis more
  word_keeps club None holds more met goes = absurd (bad-go holds more goes)
  word_keeps club (Some word.Clinched) holds more met goes =
      left_met basis true holds (key_line Outside club ∷ []) more goes
      (and_from (is_club_of_cup basis club) true met refl)
  word_keeps club (Some word.Lost) holds more met goes =
      left_met basis true holds (key_line Inside club ∷ []) more goes
      (and_from (is_club_of_cup basis club) true met refl)
  word_keeps club (Some word.Possible) holds more met goes =
      left_met basis true holds (finish_head Inside club ∷ finish_head Outside club ∷ []) more goes
      refl
  word_keeps club (Some word.Unsettled) holds more met goes =
      left_met basis true holds (both_parts club ∷ []) more goes refl

  row_keeps : (due : CupDue) (fields : List (List ℕ)) (holds : Bool) (more : List CupDue)
      → can_be_met basis due ≡ true → after_cup_row basis due fields ≡ go holds more
      → AreMet basis more
  row_keeps ask_row fields holds more met goes =
      tested_met basis (is_ask_row basis.epoch fields) true holds [] more goes refl
  row_keeps (club_row club) fields holds more met goes =
      word_keeps club (word_in_row basis.cup.quota (cup_club_name basis.cup club) fields) holds more
      met goes
  row_keeps _ fields holds more met goes = absurd (bad-go holds more goes)

  proof_keeps : (due : CupDue) (it : CupLine) (holds : Bool) (more : List CupDue)
      → can_be_met basis due ≡ true → after_cup_proof basis due it ≡ go holds more
      → AreMet basis more
  proof_keeps ask_row it holds more met goes = absurd (bad-go holds more goes)
  proof_keeps (club_row club) it holds more met goes = absurd (bad-go holds more goes)
  proof_keeps (key_line claim club) it holds more met goes =
      key_keeps basis claim club it holds more met goes
  proof_keeps (groups_line claim club key) it holds more met goes =
      listed_keeps basis claim club key (group_with (placed_groups basis) club) it holds more goes
  proof_keeps (tree_head group question) it holds more met goes =
      head_keeps basis group question it holds more goes
  proof_keeps spent_head it holds more met goes = spent_keeps basis [] it holds more refl goes
  proof_keeps (finish_head claim club) it holds more met goes =
      finish_keeps basis claim club it holds more goes
  proof_keeps (one_part claim club) it holds more met goes =
      one_keeps basis claim club it holds more goes
  proof_keeps (both_parts club) it holds more met goes = both_keep basis club it holds more goes
  proof_keeps (nodes kind group question zone zones tally) it holds more met goes =
      node_keeps basis kind group question zone zones tally (own_node kind group it) holds more goes
  proof_keeps (score claim club ended left) it holds more met goes =
      score_keeps basis claim club ended left it holds more goes
  proof_keeps (lots claim club ended) it holds more met goes =
      lots_keep basis claim club ended it holds more goes

  pub line_keeps : (due : CupDue) (token : CupToken) (holds : Bool) (more : List CupDue)
      → can_be_met basis due ≡ true → after_in_cup basis due token ≡ go holds more
      → AreMet basis more
  line_keeps due Blank holds more met goes =
      left_met basis true holds (due ∷ []) more goes (and_from (can_be_met basis due) true met refl)
  line_keeps due (Row fields) holds more met goes = row_keeps due fields holds more met goes
  line_keeps due (Proof it) holds more met goes = proof_keeps due it holds more met goes
  line_keeps due Unknown holds more met goes = absurd (bad-go holds more goes)

  -- ---- an answer

  -- all that an answer is made of can be met
  pub answer_met : AreMet basis (part_of_cup_ask basis.cup)
  answer_met =
      list_all-map (can_be_met basis) club_row
      (range_with_len 0 (clubs_together basis.cup.groups))
      ∙ all_in_range (is_club_of_cup basis) 0 (clubs_together basis.cup.groups)
      (λ club least below.
      lt-ltb club (clubs_together basis.cup.groups) (omega (arith, below)))
