-- What the calls come to that read what refutes a side of a club, and what is due after a line by
-- what it says.
use Rattle.std.specs.Prelude.{◌≡◌, ℕ, ◌<◌, ◌≤◌, ◌+◌, Bool, true, ◌&&◌, not, ◌==◌, nat_lt}
use Rattle.std.specs.Prelude.{List, [], ◌∷◌, ◌++◌, length, Option, Some, None, Result, Ok, Err}
use Rattle.std.specs.Prelude.{if◌then◌else◌}
use Rattle.std.specs.List.{list_all, list_any}
use Rattle.league_core.specs.declared.question.Claim.{Claim}
use Rattle.line_tokens.specs.declared.tree_line.TreeKind.TheVariants.{Refutation}
use Rattle.club_keys.specs.inside.KeyEnds.{key_parts}
use Rattle.club_keys.specs.declared.club_key.ClubKey.{ClubKey}
use Rattle.cert_check.specs.declared.stop.CheckStopAt.{CheckStopAt}
use Rattle.cert_check.specs.declared.stop.CheckStopAt.TheVariants as halt
use Rattle.cert_check.specs.LineGrammars.{Next, bad, go, Ending, by_next, bad_line, no_proof, short}
use Rattle.cert_check.specs.inside.Goes.{GoesOnReading}
use Rattle.cup_sheet.specs.GroupQuestions.{GroupQuestion}
use Rattle.cup_grammar.specs.PlacedGroups.{CupBasis, PlacedGroup, groups_at, placed_groups}
use Rattle.cup_text.specs.declared.cup_line.CupLine.{CupLine}
use Rattle.cup_text.specs.declared.cup_line.CupLine.TheVariants as line
use Rattle.cup_grammar.specs.CupDues.{CupDue, after_spent_line, groups_line, whole_group_tree}
use Rattle.cup_grammar.specs.CupReports.{cup_grammar}
use Rattle.cup_check.specs.inside.CupGoes.{CupReportView, cup_ending_from}

-- what is due after the row of an ask, if it is that
abbrev pub after_cup_ask_row_if : Bool → Next CupDue
after_cup_ask_row_if is = if is then go true [] else bad

-- what is due after the key of a side, if the line has one
abbrev pub after_key_if : Claim → ℕ → Option ClubKey → Next CupDue
after_key_if claim club None = bad
after_key_if claim club (Some key) = go true (groups_line claim club (key_parts key) ∷ [])

-- what is due after the head of a refutation, if the line is that
abbrev pub after_tree_head_if : PlacedGroup → GroupQuestion → Bool → Next CupDue
after_tree_head_if group question is =
    if is then go true (whole_group_tree Refutation group question ∷ []) else bad

-- the numbers are those of groups of the cup, and none of them is this group's
abbrev pub are_others : CupBasis → PlacedGroup → List ℕ → Bool
are_others basis mine numbers =
    list_all (λ number. nat_lt number (length (placed_groups basis))) numbers
    && not (list_any (λ (group : PlacedGroup). group.start.club == mine.start.club)
    (groups_at (placed_groups basis) numbers))

-- what the reading comes to where a line leaves this due
abbrev pub next_ending_from : CupReportView → Next CupDue → ℕ → List CupDue → ℕ → Ending
next_ending_from judged next at dues unsettled =
    by_next next at (λ more. cup_ending_from judged (at + 1) (more ++ dues) unsettled)

-- a call that has read a line after which this is due, and goes on over all of it
abbrev pub TakesNextInCup : CupReportView → Next CupDue → ℕ → Result ℕ CheckStopAt → Type 0
TakesNextInCup judged next at result =
    GoesOnReading cup_grammar judged (next_ending_from judged next at) result

-- ---- what stands for a side

-- the claim of the head of a joint finish
abbrev pub claim_of_line : CupLine → Option Claim
claim_of_line (line.Finish claim) = Some claim
claim_of_line _ = None

-- a call that has read what may be the head of a tree on which the budget was spent, and goes on
-- over the tree, whatever is due behind it
abbrev pub TakesSpentInCup : CupReportView → CupLine → ℕ → Result ℕ CheckStopAt → Type 0
TakesSpentInCup judged it at (Ok to) =
    (to ≤ length judged.tokens)
    × ((more dues : List CupDue) (unsettled : ℕ)
    → next_ending_from judged (after_spent_line judged.basis more it) at dues unsettled
    ≡ cup_ending_from judged to (more ++ dues) unsettled)
TakesSpentInCup judged it at (Err (halt.BadLine place)) =
    (place < length judged.tokens)
    × ((more dues : List CupDue) (unsettled : ℕ)
    → next_ending_from judged (after_spent_line judged.basis more it) at dues unsettled
    ≡ bad_line place)
TakesSpentInCup judged it at (Err (halt.NoProof place)) =
    (place < length judged.tokens)
    × ((more dues : List CupDue) (unsettled : ℕ)
    → next_ending_from judged (after_spent_line judged.basis more it) at dues unsettled
    ≡ no_proof place)
TakesSpentInCup judged it at (Err halt.Short) =
    (more dues : List CupDue) (unsettled : ℕ)
    → next_ending_from judged (after_spent_line judged.basis more it) at dues unsettled ≡ short
TakesSpentInCup judged it at (Err halt.OutOfMemory) = Unit {0}
