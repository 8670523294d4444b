-- Parts one after another: what is due is shown piece by piece, or the reading stops.
use Rattle.std.proofs.Common.{◌≡◌, ℕ, List, [], ◌∷◌, ◌++◌, Result, Ok, Err}
use Rattle.std.proofs.Common.{true, Some, None, ap, refl, ◌∙◌, arith}
use Rattle.league_core.specs.declared.question.Claim.{Claim}
use Rattle.league_core.specs.declared.question.Claim.TheVariants.{Inside, Outside}
use Rattle.line_tokens.specs.LineRanges.{same_claim}
use Rattle.cert_check.specs.declared.stop.CheckStopAt.{CheckStopAt}
use Rattle.cert_check.specs.declared.stop.CheckStopAt.TheVariants as halt
use Rattle.cert_check.specs.LineGrammars.{go}
use Rattle.cert_check.proofs.GoesLemmas.{goes_on_along, reach_on}
use Rattle.cup_text.specs.declared.cup_line.CupLine.{CupLine}
use Rattle.cup_text.specs.declared.cup_line.CupLine.TheVariants as line
use Rattle.cup_grammar.specs.PlacedGroups.{CupBasis}
use Rattle.cup_grammar.specs.CupDues.{CupDue, after_cup_part, after_cup_parts, after_joint_head}
use Rattle.cup_grammar.specs.CupDues.{after_spent_line, one_part, spent_head, whole_joint_finish}
use Rattle.cup_grammar.specs.CupReports.{cup_grammar}
use Rattle.cup_check.specs.inside.CupGoes.{CupReportView, GoesAfterInCup, GoesInCup, GoesOverCup}
use Rattle.cup_check.specs.inside.CupGoes.{ReachesInCup}
use Rattle.cup_check.specs.inside.CupGoes.{cup_ending_from}
use Rattle.cup_check.specs.inside.CupSideCalls.{TakesNextInCup, TakesSpentInCup, claim_of_line}
use Rattle.cup_check.specs.inside.CupSideCalls.{next_ending_from}

-- a piece without rows of clubs is a piece
pub as_piece : (judged : CupReportView) (from to : ℕ) (wanted : List CupDue)
    → GoesAfterInCup judged from wanted (Ok to)
    → GoesOverCup judged from wanted (Ok (record { next = to; unsettled = 0 }))
as_piece judged from to wanted goes = (
  goes.0,
  λ dues before. goes.1 dues before
      ∙ ap (λ count. cup_ending_from judged to dues count) (omega arith),
)

-- one piece more of those without rows of clubs
pub reach_after : (judged : CupReportView) (from at to : ℕ) (wanted first later : List CupDue)
    → ReachesInCup judged from wanted at (first ++ later) 0
    → GoesAfterInCup judged at first (Ok to) → ReachesInCup judged from wanted to later 0
reach_after judged from at to wanted first later reaches goes =
    reach_on cup_grammar judged from at 0 wanted first later
    (record { next = to; unsettled = 0 }) reaches (as_piece judged at to first goes)

-- all being reached, all is shown
pub reached_goes : (judged : CupReportView) (from at : ℕ) (wanted : List CupDue)
    → ReachesInCup judged from wanted at [] 0 → (dues : List CupDue) (unsettled : ℕ)
    → cup_ending_from judged from (wanted ++ dues) unsettled
    ≡ cup_ending_from judged at dues unsettled
reached_goes judged from at wanted reaches dues unsettled =
    reaches dues unsettled ∙ ap (λ count. cup_ending_from judged at dues count) (omega arith)

-- ---- behind the head of a part

-- the tree stops the reading
pub spent_stops : (judged : CupReportView) (it : CupLine) (at : ℕ) (more : List CupDue)
    (stop : CheckStopAt) → TakesSpentInCup judged it at (Err stop)
    → TakesNextInCup judged (after_spent_line judged.basis more it) at (Err stop)
spent_stops judged it at more (halt.BadLine place) takes =
    (takes.0, λ dues unsettled. takes.1 more dues unsettled)
spent_stops judged it at more (halt.NoProof place) takes =
    (takes.0, λ dues unsettled. takes.1 more dues unsettled)
spent_stops judged it at more halt.Short takes = λ dues unsettled. takes more dues unsettled
spent_stops judged it at more halt.OutOfMemory takes = tt

-- a tree on which the budget was spent, nothing more being due
pub spent_alone : (judged : CupReportView) (it : CupLine) (at : ℕ)
    (result : Result ℕ CheckStopAt) → TakesSpentInCup judged it at result
    → TakesNextInCup judged (after_spent_line judged.basis [] it) at result
spent_alone judged it at (Ok to) takes = (takes.0, λ dues unsettled. takes.1 [] dues unsettled)
spent_alone judged it at (Err stop) takes = spent_stops judged it at [] stop takes

-- the tree is read, and then another part is
pub spent_before : (judged : CupReportView) (it : CupLine) (at to : ℕ) (due : CupDue)
    (result : Result ℕ CheckStopAt) → TakesSpentInCup judged it at (Ok to)
    → GoesInCup judged to due result
    → TakesNextInCup judged (after_spent_line judged.basis (due ∷ []) it) at result
spent_before judged it at to due result takes goes =
    goes_on_along cup_grammar judged
    (next_ending_from judged (after_spent_line judged.basis (due ∷ []) it) at)
    (λ dues. cup_ending_from judged to (due ∷ dues)) (takes.1 (due ∷ [])) result goes

-- the head of a joint finish of the side that is due
pub head_of_side : (basis : CupBasis) (claim : Claim) (club : ℕ) (it : CupLine) (told : Claim)
    → claim_of_line it ≡ Some told → same_claim told claim ≡ true
    → after_joint_head basis claim club it ≡ go true (whole_joint_finish basis claim club ∷ [])
head_of_side basis claim club (line.Finish side) told is same =
    let told_is : side ≡ told = cc in rw (ap (λ c. same_claim c claim) told_is ∙ same) refl
head_of_side basis claim club _ told is same = absurd cc

-- that of the first of two parts
pub head_of_first : (basis : CupBasis) (club : ℕ) (it : CupLine) → claim_of_line it ≡ Some Inside
    → after_cup_parts basis club it
    ≡ go true (whole_joint_finish basis Inside club ∷ spent_head ∷ [])
head_of_first basis club (line.Finish Inside) is = refl
head_of_first basis club (line.Finish Outside) is = absurd cc
head_of_first basis club _ is = absurd cc

-- a head that is one of a joint finish, or is not
pub part_as_finish : (basis : CupBasis) (claim : Claim) (club : ℕ) (it : CupLine) (told : Claim)
    → claim_of_line it ≡ Some told
    → after_joint_head basis claim club it ≡ after_cup_part basis claim club it
part_as_finish basis claim club (line.Finish side) told is = refl
part_as_finish basis claim club _ told is = absurd cc

pub part_as_spent : (basis : CupBasis) (claim : Claim) (club : ℕ) (it : CupLine)
    → claim_of_line it ≡ None
    → after_spent_line basis [] it ≡ after_cup_part basis claim club it
part_as_spent basis claim club (line.Finish side) is = absurd cc
part_as_spent basis claim club _ is = refl

pub parts_as_spent : (basis : CupBasis) (club : ℕ) (it : CupLine) → claim_of_line it ≡ None
    → after_spent_line basis (one_part Outside club ∷ []) it ≡ after_cup_parts basis club it
parts_as_spent basis club (line.Finish side) is = absurd cc
parts_as_spent basis club _ is = refl
