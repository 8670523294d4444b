-- What a turn of work leaves as it was, that it leaves less to do, and that nothing is out after it
-- if nothing was out before.
use Rattle.std.proofs.Common.{◌≡◌, ℕ, suc, ◌+◌, ◌-◌, ◌<◌, true, List, [], ◌∷◌, Option, Some, None}
use Rattle.std.proofs.Common.{refl, sym, ap, ◌∙◌, subst, arith, set, cond}
use Rattle.std.specs.Prelude.{is_some, is_none, sum_by}
use Rattle.std.specs.List.{slice_get}
use Rattle.std.proofs.lemmas.Bool.{false≢true, and_parts, ltb-true}
use Rattle.std.proofs.lemmas.Option.{get_or_from_slice_get, slice_get_within}
use Rattle.std.proofs.lemmas.List.Sums.{sum_by-set, sum_by-cons}
use Rattle.league_core.specs.declared.sheet.Sheet.{Sheet}
use Rattle.reason_core.specs.declared.done.Done.{Done}
use Rattle.reason_core.specs.declared.done.Done.TheVariants.{Refuted, Split, Won, Undone}
use Rattle.reason_core.specs.inside.Dones.{finding_of}
use Rattle.tree_arena.specs.declared.example.Example.{Example}
use Rattle.branch_pool.specs.declared.question_state.QuestionState.{QuestionState}
use Rattle.branch_pool.specs.declared.question_state.Loan.{Loan}
use Rattle.branch_pool.specs.inside.States.{PoolView, is_workable, free_number, with_loan}
use Rattle.branch_pool.specs.inside.States.{out_count}
use Rattle.branch_pool.specs.inside.Steps.{seat_lent, seat_after, units_after, example_after}
use Rattle.branch_pool.specs.inside.Steps.{loan_of}
use Rattle.branch_pool.specs.inside.Runs.{WorksNext, IsWorked}
use Rattle.verdict_run.specs.inside.Working.{WorksTo, no_turn, one_turn_more, IsSameLeague}
use Rattle.league_core.proofs.plain.Slots.{slice_get-set_same}

-- ---- what stays

-- a turn changes what is known of a question, and nothing else
pub turn_same : (old new : PoolView) → WorksNext old new → IsSameLeague old new
turn_same old new turn =
    let taken = turn.taken.takes.after in
    record {
      sheet = ap (λ pool. pool.sheet) turn.kept.after ∙ ap (λ pool. pool.sheet) taken;
      questions = ap (λ pool. pool.questions) turn.kept.after ∙ ap (λ pool. pool.questions) taken;
      season = ap (λ pool. pool.season) turn.kept.after ∙ ap (λ pool. pool.season) taken;
      log = ap (λ pool. pool.log) turn.kept.after ∙ ap (λ pool. pool.log) taken;
      is_open = ap (λ pool. pool.is_open) turn.kept.after ∙ ap (λ pool. pool.is_open) taken;
    }

-- so do any number of them
pub works_same : (old new : PoolView) → WorksTo old new → IsSameLeague old new
works_same old new (no_turn pool) =
    record { sheet = refl; questions = refl; season = refl; log = refl; is_open = refl }
works_same old new (one_turn_more first between last before turn) =
    let one = works_same first between before in
    let two = turn_same between last turn in
    record {
      sheet = two.sheet ∙ one.sheet;
      questions = two.questions ∙ one.questions;
      season = two.season ∙ one.season;
      log = two.log ∙ one.log;
      is_open = two.is_open ∙ one.is_open;
    }

-- ---- what is out

-- what was lent under the free number is home again
out_count-home : (loans : List (Option Loan)) (loan : Loan)
    → out_count (set (with_loan loans (free_number loans) loan) (free_number loans) None)
    ≡ out_count loans
out_count-home [] loan = refl
out_count-home (None ∷ loans) loan = refl
out_count-home (Some out ∷ loans) loan =
    let p = is_some {T = Loan} in
    sum_by-cons (λ x. cond (p x) 1 0) (Some out)
    (set (with_loan loans (free_number loans) loan) (free_number loans) None)
    ∙ ap (λ n. 1 + n) (out_count-home loans loan)
    ∙ sym (sum_by-cons (λ x. cond (p x) 1 0) (Some out) loans)

-- after a turn as many numbers are out as before
pub turn_home : (old new : PoolView) → WorksNext old new → out_count new.loans ≡ out_count
    old.loans
turn_home old new turn =
    let number = turn.ticket.number in
    let loan = loan_of turn.ticket in
    let P : ℕ → Type 0 = λ n. out_count (set (with_loan old.loans n loan) n None)
    ≡ out_count old.loans in
    ap (λ pool. out_count pool.loans) turn.kept.after
    ∙ ap (λ pool. out_count (set pool.loans number None)) turn.taken.takes.after
    ∙ subst P (sym turn.taken.takes.number) (out_count-home old.loans loan)

-- so it is after any number of them
pub works_home : (old new : PoolView) → WorksTo old new
    → out_count new.loans ≡ out_count old.loans
works_home old new (no_turn pool) = refl
works_home old new (one_turn_more first between last before turn) =
    turn_home between last turn ∙ works_home first between before

-- ---- what is left to do

-- how much is left to do for a question at most, if no example is kept: the units that it has not
-- used, and one for the example
abbrev pub left_if : ℕ → ℕ → Option Example → ℕ
left_if budget units None = suc (budget - units)
left_if budget units (Some example) = 0

-- how much is left to do for a question at most
abbrev pub left_of : ℕ → QuestionState → ℕ
left_of budget seat = left_if budget seat.units seat.example

-- how much is left to do at most
unfoldable pub turns_left : PoolView → ℕ
turns_left pool = sum_by (left_of pool.sheet.budget) pool.seats

-- a sum with another item in the place of one
sum-set : (budget : ℕ) (seats : List QuestionState) (place : ℕ) (was is : QuestionState)
    → slice_get seats place ≡ Some was
    → sum_by (left_of budget) (set seats place is) + left_of budget was
    ≡ sum_by (left_of budget) seats + left_of budget is
sum-set budget seats place was is found =
    let f = left_of budget in
    ap (λ seat. sum_by f (set seats place is) + f seat)
    (sym (get_or_from_slice_get seats place was was found))
    ∙ sum_by-set f seats place is was (slice_get_within seats place was found)

-- a question with work has no example, and units to use
workable_left : (sheet : Sheet) (seat : QuestionState) → is_workable sheet seat ≡ true
    → (seat.example ≡ None) × (seat.units < sheet.budget)
workable_left sheet seat workable =
    let parts = and_parts _ _ workable in
    let more = and_parts _ _ parts.0 in
    let within = ltb-true (seat.units + seat.lent) sheet.budget parts.1 in
    (no_example seat.example more.0, omega (arith, within))
  where
    no_example : (example : Option Example) → is_none example ≡ true → example ≡ None
    no_example None none = refl
    no_example (Some example) none = absurd (false≢true none)

-- what was found leaves less to do
found_less : (budget units : ℕ) (done : Done) → units < budget → IsWorked done
    → left_if budget (units + units_after (finding_of done))
    (example_after None (finding_of done)) < left_if budget units None
found_less budget units (Refuted piece reason) within worked = omega (arith, within)
found_less budget units (Split piece literal) within worked = omega (arith, within)
found_less budget units (Won piece finish lots) within worked = omega arith
found_less budget units Undone within worked = absurd worked

-- two items in the place of others, of which the last counts less than the first
less_sum : (last middle first lent given was left : ℕ) → last + lent ≡ middle + given
    → middle + was ≡ first + lent → given < was → lent ≡ was → left ≡ last → left < first
less_sum last middle first lent given was left two one fewer same is = omega arith

-- so does a turn
pub turn_less : (old new : PoolView) → WorksNext old new → turns_left new < turns_left old
unfolding turns_left
turn_less old new turn =
    let budget = old.sheet.budget in
    let place = turn.ticket.place in
    let what = finding_of turn.done in
    let was = turn.taken.takes.seat in
    let lent = seat_lent turn.taken.takes.tree was in
    let given = seat_after turn.ticket.number what lent in
    let seats = set old.seats place lent in
    let last = set seats place given in
    let workable = workable_left old.sheet was turn.taken.takes.workable in
    let found : slice_get seats place ≡ Some lent =
    slice_get-set_same old.seats place was lent turn.taken.takes.found in
    let there : turn.between.seats ≡ seats = ap (λ pool. pool.seats) turn.taken.takes.after in
    let seen : slice_get turn.between.seats place ≡ Some turn.kept.seat = turn.kept.found in
    let is : turn.kept.seat ≡ lent = cc (ap (λ xs. slice_get xs place) there) in
    let ends : new ≡ record turn.between {
      seats = set turn.between.seats place (seat_after turn.ticket.number what turn.kept.seat);
      loans = set turn.between.loans turn.ticket.number None;
    } = turn.kept.after in
    let sheet_is : new.sheet ≡ old.sheet = (turn_same old new turn).sheet in
    let seats_are : new.seats ≡ last =
    ap (λ pool. pool.seats) ends
    ∙ ap (λ xs. set xs place (seat_after turn.ticket.number what turn.kept.seat)) there
    ∙ ap (λ seat. set seats place (seat_after turn.ticket.number what seat)) is in
    let sum_is : turns_left new ≡ sum_by (left_of budget) last =
    ap (λ sheet. sum_by (left_of sheet.budget) new.seats) sheet_is
    ∙ ap (sum_by (left_of budget)) seats_are in
    let one = sum-set budget old.seats place was lent turn.taken.takes.found in
    let two = sum-set budget seats place lent given found in
    let none : was.example ≡ None = workable.0 in
    let less : left_if budget (was.units + units_after what) (example_after None what)
    < left_if budget was.units None =
    found_less budget was.units turn.done workable.1 turn.worked in
    let P : Option Example → Type 0 = λ kept.
    left_if budget (was.units + units_after what) (example_after kept what)
    < left_if budget was.units kept in
    let fewer : left_of budget given < left_of budget was = subst P (sym none) less in
    less_sum (sum_by (left_of budget) last) (sum_by (left_of budget) seats)
    (sum_by (left_of budget) old.seats) (left_of budget lent) (left_of budget given)
    (left_of budget was) (turns_left new) two one fewer refl sum_is
