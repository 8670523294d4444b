-- Rows, and then any line that may come: with what is due after it, it is a part, and the first
-- line of a part leaves due what its other lines are.
use Rattle.std.proofs.Common.{◌≡◌, ℕ, Bool, true, List, [], ◌∷◌, Option, Some, None}
use Rattle.std.proofs.Common.{refl, ap, ◌∙◌}
use Rattle.std.specs.Prelude.{if◌then◌else◌}
use Rattle.std.proofs.lemmas.Bool.{false≢true}
use Rattle.league_core.specs.declared.question.Claim.TheVariants.{Inside, Outside}
use Rattle.line_tokens.specs.RowFields.{ask_fields, verdict_fields}
use Rattle.line_tokens.specs.declared.row_word.RowWord.{RowWord}
use Rattle.line_tokens.specs.declared.row_word.RowWord.TheVariants as word
use Rattle.cert_check.specs.ExpectedItems.{is_ask_row, word_in_row}
use Rattle.cert_check.specs.LineGrammars.{bad, go}
use Rattle.cert_check.proofs.NextLemmas.{bad-go, go-if, if-go, only_part, as_only_part}
use Rattle.cert_check.proofs.NextLemmas.{Parted}
use Rattle.cert_check.proofs.RowLemmas.{ask_row-of, ask_row-says, word_in_row-of}
use Rattle.cert_check.proofs.RowLemmas.{word_in_row-says}
use Rattle.cup_text.specs.declared.cup_line.CupLine.{CupLine}
use Rattle.cup_text.specs.CupItems.{cup_club_name}
use Rattle.cup_grammar.specs.declared.token.CupToken.{CupToken}
use Rattle.cup_grammar.specs.declared.token.CupToken.TheVariants.{Blank, Row, Proof, Unknown}
use Rattle.cup_grammar.specs.PlacedGroups.{CupBasis}
use Rattle.cup_grammar.specs.CupDues.{CupDue, ask_row, both_parts, club_row, finish_head}
use Rattle.cup_grammar.specs.CupDues.{groups_line, key_line, lots, nodes, one_part, score}
use Rattle.cup_grammar.specs.CupDues.{spent_head, tree_head}
use Rattle.cup_grammar.specs.CupExpected.{after_cup_proof, after_in_cup, dues_of_cup_word}
use Rattle.cup_grammar.specs.CupExpected.{promised_of_club}
use Rattle.cup_grammar.specs.inside.CupRowTruths.{counts_in_cup}
use Rattle.cup_stops.specs.inside.CupCases.{IsAfterClubRow, IsClubItem, IsCupCase, cup_cases}
use Rattle.cup_stops.proofs.DueCaseLemmas.{AreCasesOf, left_cases}
use Rattle.cup_stops.proofs.GroupTreeLineLemmas.{join_tree_line, part_tree_line}
use Rattle.cup_stops.proofs.JointLineLemmas.{join_lots_line, join_score_line, part_lots_line}
use Rattle.cup_stops.proofs.JointLineLemmas.{part_score_line}
use Rattle.cup_stops.proofs.HeadedTreeLemmas.{join_headed_tree, part_headed_tree}
use Rattle.cup_stops.proofs.SideLineLemmas.{join_groups_line, join_key_line, part_groups_line}
use Rattle.cup_stops.proofs.SideLineLemmas.{part_key_line}
use Rattle.cup_stops.proofs.UnsettledHeadLemmas.{join_finish_head, join_spent_head}
use Rattle.cup_stops.proofs.UnsettledHeadLemmas.{part_finish_head, part_spent_head}
use Rattle.cup_stops.proofs.UnsettledLineLemmas.{join_both_heads, join_one_head, part_both_heads}
use Rattle.cup_stops.proofs.UnsettledLineLemmas.{part_one_head}

module _ (proved : Bool) (basis : CupBasis) where
  -- ---- rows

  -- the word that a row says of a club
  abbrev said_of : ℕ → List (List ℕ) → Option RowWord
  said_of club fields = word_in_row basis.cup.quota (cup_club_name basis.cup club) fields

  -- the row of the ask
  join_ask_line : (fields : List (List ℕ)) (holds : Bool) (more : List CupDue)
      (tokens : List CupToken)
      → (if is_ask_row basis.epoch fields then go true [] else bad) ≡ go holds more
      → AreCasesOf proved basis more tokens
      → Row fields ∷ tokens ≡ Row (ask_fields basis.epoch) ∷ []
  join_ask_line fields holds more tokens goes parts =
      let fits = go-if (is_ask_row basis.epoch fields) (go true []) holds more goes in
      let ends : tokens ≡ [] = left_cases proved basis true holds [] more tokens fits.1 parts in
      ap (λ it. Row it ∷ tokens) (ask_row-says basis.epoch fields fits.0)
      ∙ ap (λ it. Row (ask_fields basis.epoch) ∷ it) ends

  -- what comes after the row of a word is what the word asks for
  due_behind : (club : ℕ) (said : RowWord) (tokens : List CupToken)
      → AreCasesOf proved basis (dues_of_cup_word club said) tokens
      → IsAfterClubRow proved basis club said tokens
  due_behind club word.Clinched tokens parts =
      only_part cup_cases proved basis (key_line Outside club) tokens parts
  due_behind club word.Lost tokens parts =
      only_part cup_cases proved basis (key_line Inside club) tokens parts
  due_behind club word.Possible tokens parts = (
    parts.0,
    parts.1,
    parts.2,
    only_part cup_cases proved basis (finish_head Outside club) parts.1 parts.3,
    parts.4,
  )
  due_behind club word.Unsettled tokens parts =
      only_part cup_cases proved basis (both_parts club) tokens parts

  behind_due : (club : ℕ) (said : RowWord) (tokens : List CupToken)
      → IsAfterClubRow proved basis club said tokens
      → AreCasesOf proved basis (dues_of_cup_word club said) tokens
  behind_due club word.Clinched tokens behind =
      as_only_part cup_cases proved basis (key_line Outside club) tokens behind
  behind_due club word.Lost tokens behind =
      as_only_part cup_cases proved basis (key_line Inside club) tokens behind
  behind_due club word.Possible tokens behind = (
    behind.0,
    behind.1,
    behind.2,
    as_only_part cup_cases proved basis (finish_head Outside club) behind.1 behind.3,
    behind.4,
  )
  behind_due club word.Unsettled tokens behind =
      as_only_part cup_cases proved basis (both_parts club) tokens behind

  -- the row of a club with what its word asks for
  join_club_line : (club : ℕ) (fields : List (List ℕ)) (holds : Bool) (more : List CupDue)
      (tokens : List CupToken) (found : Option RowWord) → said_of club fields ≡ found
      → promised_of_club club found ≡ go holds more → AreCasesOf proved basis more tokens
      → IsClubItem proved basis club (Row fields ∷ tokens)
  join_club_line club fields holds more tokens None is goes parts =
      absurd (bad-go holds more goes)
  join_club_line club fields holds more tokens (Some said) is goes parts = (
    said,
    tokens,
    due_behind club said tokens
        (left_cases proved basis true holds (dues_of_cup_word club said) more tokens goes parts),
    ap (λ it. Row it ∷ tokens)
        (word_in_row-says basis.cup.quota (cup_club_name basis.cup club) fields said is),
  )

  part_club_line : (club : ℕ) (tokens : List CupToken) → IsClubItem proved basis club tokens
      → Parted cup_cases proved basis (after_in_cup basis) (club_row club) tokens
  part_club_line club tokens item =
      let name = cup_club_name basis.cup club in (
        Row (verdict_fields basis.cup.quota name item.0),
        item.1,
        true,
        dues_of_cup_word club item.0,
        item.3,
        ap (promised_of_club club) (word_in_row-of basis.cup.quota name item.0),
        λ _. refl,
        refl,
        behind_due club item.0 item.1 item.2,
      )

  -- ---- any line

  -- a row
  join_row_line : (due : CupDue) (fields : List (List ℕ)) (holds : Bool) (more : List CupDue)
      (tokens : List CupToken) → after_in_cup basis due (Row fields) ≡ go holds more
      → AreCasesOf proved basis more tokens → IsCupCase proved basis due (Row fields ∷ tokens)
  join_row_line ask_row fields holds more tokens goes parts =
      join_ask_line fields holds more tokens goes parts
  join_row_line (club_row club) fields holds more tokens goes parts =
      join_club_line club fields holds more tokens (said_of club fields) refl goes parts
  join_row_line _ fields holds more tokens goes parts = absurd (bad-go holds more goes)

  -- a proof line
  join_proof_line : (due : CupDue) (it : CupLine) (holds : Bool) (more : List CupDue)
      (tokens : List CupToken) → after_cup_proof basis due it ≡ go holds more
      → (proved ≡ true → holds ≡ true) → AreCasesOf proved basis more tokens
      → IsCupCase proved basis due (Proof it ∷ tokens)
  join_proof_line ask_row it holds more tokens goes so parts = absurd (bad-go holds more goes)
  join_proof_line (club_row club) it holds more tokens goes so parts =
      absurd (bad-go holds more goes)
  join_proof_line (key_line claim club) it holds more tokens goes so parts =
      join_key_line proved basis claim club it holds more tokens goes parts
  join_proof_line (groups_line claim club key) it holds more tokens goes so parts =
      join_groups_line proved basis claim club key it holds more tokens goes parts
  join_proof_line (tree_head group question) it holds more tokens goes so parts =
      join_headed_tree proved basis group question it holds more tokens goes parts
  join_proof_line spent_head it holds more tokens goes so parts =
      join_spent_head proved basis it holds more tokens goes parts
  join_proof_line (finish_head claim club) it holds more tokens goes so parts =
      join_finish_head proved basis claim club it holds more tokens goes parts
  join_proof_line (one_part claim club) it holds more tokens goes so parts =
      join_one_head proved basis claim club it holds more tokens goes parts
  join_proof_line (both_parts club) it holds more tokens goes so parts =
      join_both_heads proved basis club it holds more tokens goes parts
  join_proof_line (nodes kind group question zone zones tally) it holds more tokens goes so parts =
      join_tree_line proved basis kind group question zone zones tally it holds more tokens goes so
      parts
  join_proof_line (score claim club ended left) it holds more tokens goes so parts =
      join_score_line proved basis claim club ended left it holds more tokens goes parts
  join_proof_line (lots claim club ended) it holds more tokens goes so parts =
      join_lots_line proved basis claim club ended it holds more tokens goes so parts

  -- a line that counts, with what is due after it, is a part
  pub join_case : (due : CupDue) (token : CupToken) (holds : Bool) (more : List CupDue)
      (tokens : List CupToken) → counts_in_cup token ≡ true
      → after_in_cup basis due token ≡ go holds more → (proved ≡ true → holds ≡ true)
      → AreCasesOf proved basis more tokens → IsCupCase proved basis due (token ∷ tokens)
  join_case due Blank holds more tokens counted goes so parts = absurd (false≢true counted)
  join_case due (Row fields) holds more tokens counted goes so parts =
      join_row_line due fields holds more tokens goes parts
  join_case due (Proof it) holds more tokens counted goes so parts =
      join_proof_line due it holds more tokens goes so parts
  join_case due Unknown holds more tokens counted goes so parts = absurd (bad-go holds more goes)

  -- the first line of a part leaves due what its other lines are
  pub part_case : (due : CupDue) (tokens : List CupToken) → IsCupCase proved basis due tokens
      → Parted cup_cases proved basis (after_in_cup basis) due tokens
  part_case ask_row tokens part = (
    Row (ask_fields basis.epoch),
    [],
    true,
    [],
    part,
    if-go (is_ask_row basis.epoch (ask_fields basis.epoch)) (go true [])
        (ask_row-of basis.epoch),
    λ _. refl,
    refl,
    refl,
  )
  part_case (club_row club) tokens part = part_club_line club tokens part
  part_case (key_line claim club) tokens part = part_key_line proved basis claim club tokens part
  part_case (groups_line claim club key) tokens part =
      part_groups_line proved basis claim club key tokens part
  part_case (tree_head group question) tokens part =
      part_headed_tree proved basis group question tokens part
  part_case spent_head tokens part = part_spent_head proved basis tokens part
  part_case (finish_head claim club) tokens part =
      part_finish_head proved basis claim club tokens part
  part_case (one_part claim club) tokens part = part_one_head proved basis claim club tokens part
  part_case (both_parts club) tokens part = part_both_heads proved basis club tokens part
  part_case (nodes kind group question zone zones tally) tokens part =
      part_tree_line proved basis kind group question zone zones tally tokens part
  part_case (score claim club ended left) tokens part =
      part_score_line proved basis claim club ended left tokens part
  part_case (lots claim club ended) tokens part =
      part_lots_line proved basis claim club ended tokens part
