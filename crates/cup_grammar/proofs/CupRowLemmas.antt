-- Any line that goes on joins what its rest shows, and so an accepted part is true, row by row.
use Rattle.std.proofs.Common.{◌≡◌, ℕ, true, false, List, [], ◌∷◌, ◌++◌, Option, Some, None}
use Rattle.std.proofs.Common.{refl, sym, ap, ◌∙◌, map, drop}
use Rattle.std.specs.Prelude.{if◌then◌else◌}
use Rattle.std.specs.List.{range_with_len}
use Rattle.std.proofs.lemmas.Bool.{false≢true}
use Rattle.league_core.specs.declared.question.Claim.TheVariants.{Inside, Outside}
use Rattle.line_tokens.specs.RowFields.{ask_fields}
use Rattle.line_tokens.specs.declared.row_word.RowWord.{RowWord}
use Rattle.line_tokens.specs.declared.row_word.RowWord.TheVariants as word
use Rattle.cert_check.specs.ExpectedItems.{is_ask_row, word_in_row}
use Rattle.cert_check.specs.LineGrammars.{bad, go}
use Rattle.cert_check.proofs.NextLemmas.{bad-go, go-if}
use Rattle.cert_check.proofs.RowLemmas.{ask_row-says, word_in_row-says}
use Rattle.cert_check.proofs.TakenLemmas.{JoinsParts, taken_shows}
use Rattle.cup_sheet.specs.Cups.{AreSeasonsOf, IsCup, clubs_together}
use Rattle.cup_laws.specs.inside.CupTruths.{AreCupResults}
use Rattle.cup_laws.proofs.CupTruthLemmas.{clinched_is_true, lost_is_true}
use Rattle.cup_text.specs.declared.cup_line.CupLine.{CupLine}
use Rattle.cup_text.specs.CupItems.{cup_club_name}
use Rattle.cup_text.specs.CupRanges.{is_cup_line}
use Rattle.cup_grammar.specs.declared.token.CupToken.{CupToken}
use Rattle.cup_grammar.specs.declared.token.CupToken.TheVariants.{Blank, Row, Proof, Unknown}
use Rattle.cup_grammar.specs.PlacedGroups.{CupBasis}
use Rattle.cup_grammar.specs.CupDues.{CupDue, ask_row, both_parts, club_row, finish_head}
use Rattle.cup_grammar.specs.CupDues.{groups_line, key_line, lots, nodes, one_part, score}
use Rattle.cup_grammar.specs.CupDues.{spent_head, tree_head}
use Rattle.cup_grammar.specs.CupExpected.{after_in_cup, after_cup_proof, promised_of_club}
use Rattle.cup_grammar.specs.CupReports.{cup_grammar, cup_tokens_of}
use Rattle.cup_grammar.specs.CupReports.{part_of_cup_ask}
use Rattle.cup_grammar.specs.inside.CupParts.{IsReadInCup, ShowsDue, cup_parts}
use Rattle.cup_grammar.specs.inside.CupRowTruths.{AcceptedCupPartsAreTrue, AreTrueClubRows}
use Rattle.cup_grammar.specs.inside.CupRowTruths.{IsSaidTrulyInCup, IsTrueClubRow, counts_in_cup}
use Rattle.cup_grammar.proofs.CupRefutationLemmas.{join_groups, join_key}
use Rattle.cup_grammar.proofs.GroupNodeLemmas.{ArePartsOf, join_group_head, join_zones, left_part}
use Rattle.cup_grammar.proofs.GroupNodeLemmas.{left_parts}
use Rattle.cup_grammar.proofs.JointFinishLemmas.{join_cup_lots, join_cup_score, join_joint_head}
use Rattle.cup_grammar.proofs.ReadLineLemmas.{lines_are_read}

module _ (basis : CupBasis) (is_cup : IsCup basis.cup)
    (each : AreSeasonsOf basis.cup.groups basis.seasons) (results : AreCupResults basis.seasons)
  where
    -- ---- rows

    -- the row of the ask
    join_ask_row : (fields : List (List ℕ)) (more : List CupDue) (tokens : List CupToken)
        → (if is_ask_row basis.epoch fields then go true [] else bad) ≡ go true more
        → ArePartsOf basis more tokens
        → Row fields ∷ tokens ≡ Row (ask_fields basis.epoch) ∷ []
    join_ask_row fields more tokens goes parts =
        let fits = go-if (is_ask_row basis.epoch fields) (go true []) true more goes in
        let ends : tokens ≡ [] = (left_parts basis true [] more tokens fits.1 parts).1 in
        ap (λ it. Row it ∷ tokens) (ask_row-says basis.epoch fields fits.0)
        ∙ ap (λ it. Row (ask_fields basis.epoch) ∷ it) ends

    -- what comes after a row shows what its word says
    said_truly : (club : ℕ) (said : RowWord) (more : List CupDue) (tokens : List CupToken)
        → promised_of_club club (Some said) ≡ go true more → ArePartsOf basis more tokens
        → IsSaidTrulyInCup basis club said
    said_truly club word.Clinched more tokens goes parts =
        let shown = (left_part basis true (key_line Outside club) more tokens goes parts).1 in
        clinched_is_true basis.cup basis.seasons club shown.0 shown.1.0 is_cup results shown.1.1
    said_truly club word.Lost more tokens goes parts =
        let shown = (left_part basis true (key_line Inside club) more tokens goes parts).1 in
        lost_is_true basis.cup basis.seasons club shown.0 shown.1.0 is_cup results shown.1.1
    said_truly club word.Possible more tokens goes parts =
        let shown = (left_parts basis true
        (finish_head Inside club ∷ finish_head Outside club ∷ []) more tokens goes parts).1 in
        let inside = shown.2 in
        let outside = shown.3.2 in (
          (inside.0, inside.1, inside.2.joint, inside.2.on_side),
          (outside.0, outside.1, outside.2.joint, outside.2.on_side),
        )
    said_truly club word.Unsettled more tokens goes parts = tt

    -- the row of a club with what comes after it
    join_club_row : (club : ℕ) (fields : List (List ℕ)) (more : List CupDue)
        (tokens : List CupToken) (found : Option RowWord)
        → word_in_row basis.cup.quota (cup_club_name basis.cup club) fields ≡ found
        → promised_of_club club found ≡ go true more → ArePartsOf basis more tokens
        → IsTrueClubRow basis club (Row fields ∷ tokens)
    join_club_row club fields more tokens None is goes parts = absurd (bad-go true more goes)
    join_club_row club fields more tokens (Some said) is goes parts = (
      said,
      tokens,
      said_truly club said more tokens goes parts,
      ap (λ it. Row it ∷ tokens)
          (word_in_row-says basis.cup.quota (cup_club_name basis.cup club) fields said is),
    )

    -- any row
    join_cup_row : (due : CupDue) (fields : List (List ℕ)) (more : List CupDue)
        (tokens : List CupToken) → after_in_cup basis due (Row fields) ≡ go true more
        → ArePartsOf basis more tokens → ShowsDue basis due (Row fields ∷ tokens)
    join_cup_row ask_row fields more tokens goes parts = join_ask_row fields more tokens goes parts
    join_cup_row (club_row club) fields more tokens goes parts =
        join_club_row club fields more tokens
        (word_in_row basis.cup.quota (cup_club_name basis.cup club) fields) refl goes parts
    join_cup_row _ fields more tokens goes parts = absurd (bad-go true more goes)

    -- ---- proof lines

    -- any proof line
    join_cup_proof : (due : CupDue) (it : CupLine) (more : List CupDue) (tokens : List CupToken)
        → is_cup_line it ≡ true → after_cup_proof basis due it ≡ go true more
        → ArePartsOf basis more tokens → ShowsDue basis due (Proof it ∷ tokens)
    join_cup_proof ask_row it more tokens range goes parts = absurd (bad-go true more goes)
    join_cup_proof (club_row club) it more tokens range goes parts = absurd (bad-go true more goes)
    join_cup_proof (key_line claim club) it more tokens range goes parts =
        join_key basis claim club it more tokens goes parts
    join_cup_proof (groups_line claim club key) it more tokens range goes parts =
        join_groups basis claim club key it more tokens range goes parts
    join_cup_proof (tree_head group question) it more tokens range goes parts =
        join_group_head basis group question it more tokens goes parts
    join_cup_proof spent_head it more tokens range goes parts = tt
    join_cup_proof (finish_head claim club) it more tokens range goes parts =
        join_joint_head basis claim club it more tokens is_cup each goes parts
    join_cup_proof (one_part claim club) it more tokens range goes parts = tt
    join_cup_proof (both_parts club) it more tokens range goes parts = tt
    join_cup_proof (nodes kind group question zone zones tally) it more tokens range goes parts =
        join_zones basis kind group question zone zones tally it more tokens goes parts
    join_cup_proof (score claim club ended left) it more tokens range goes parts =
        join_cup_score basis claim club ended left it more tokens goes parts
    join_cup_proof (lots claim club ended) it more tokens range goes parts =
        join_cup_lots basis claim club ended it more tokens goes parts

    -- ---- whole parts

    -- any line that counts
    join_cup_line : (due : CupDue) (token : CupToken) (more : List CupDue) (tokens : List CupToken)
        → IsReadInCup token → counts_in_cup token ≡ true
        → after_in_cup basis due token ≡ go true more → ArePartsOf basis more tokens
        → ShowsDue basis due (token ∷ tokens)
    join_cup_line due Blank more tokens is_read counted goes parts = absurd (false≢true counted)
    join_cup_line due (Row fields) more tokens is_read counted goes parts =
        join_cup_row due fields more tokens goes parts
    join_cup_line due (Proof it) more tokens is_read counted goes parts =
        join_cup_proof due it more tokens is_read goes parts
    join_cup_line due Unknown more tokens is_read counted goes parts =
        absurd (bad-go true more goes)

    -- a line that does not count leaves what is due
    passes_by : (due : CupDue) (token : CupToken) → counts_in_cup token ≡ false
        → after_in_cup basis due token ≡ go true (due ∷ [])
    passes_by due Blank passed = refl
    passes_by due (Row fields) passed = absurd (false≢true (sym passed))
    passes_by due (Proof it) passed = absurd (false≢true (sym passed))
    passes_by due Unknown passed = absurd (false≢true (sym passed))

    cup_lines_join : JoinsParts cup_parts basis IsReadInCup
    unfolding cup_grammar
    cup_lines_join = record { joins = join_cup_line; passed = passes_by }

    -- lines for rows of clubs are true rows
    true_rows : (clubs : List ℕ) (tokens : List CupToken)
        → ArePartsOf basis (map club_row clubs) tokens → AreTrueClubRows basis clubs tokens
    true_rows [] tokens parts = parts
    true_rows (club ∷ clubs) tokens parts =
        (parts.0, parts.1, parts.2, true_rows clubs parts.1 parts.3, parts.4)

-- an accepted part is true
pub accepted_is_true : AcceptedCupPartsAreTrue
accepted_is_true basis lines from next unsettled is_cup each results ends =
    let taken = taken_shows cup_parts basis IsReadInCup
    (cup_lines_join basis is_cup each results)
    (drop from (cup_tokens_of lines)) (part_of_cup_ask basis.cup) from 0 next unsettled
    (lines_are_read lines from) ends in
    let parts = taken.5 in (
      taken.0,
      taken.1,
      taken.2,
      taken.3,
      (
        parts.1,
        parts.4 ∙ ap (λ it. it ++ parts.1) parts.2,
        true_rows basis is_cup each results
            (range_with_len 0 (clubs_together basis.cup.groups)) parts.1 parts.3,
      ),
    )
