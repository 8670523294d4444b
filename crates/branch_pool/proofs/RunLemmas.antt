-- Lists of steps keep a pool sound; a turn of work leaves less to do; and where nothing is left,
-- each question is answered.
use Rattle.std.proofs.Common.{◌≡◌, ◌≢◌, ℕ, suc, ◌+◌, ◌-◌, ◌<◌, ◌≤◌, ◌==◌, Bool, true, false}
use Rattle.std.proofs.Common.{nat_lt, List, [], ◌∷◌, length, Option, Some, None, refl, sym}
use Rattle.std.proofs.Common.{ap, ◌∙◌, set, subst, inl, inr, arith}
use Rattle.std.specs.Prelude.{sum_by, is_none}
use Rattle.std.specs.List.{slice_get, All}
use Rattle.std.specs.Option.{option_map}
use Rattle.std.proofs.lemmas.Bool.{false≢true, both_ways, cases_Bool, and_from, lt-ltb, and_parts}
use Rattle.std.proofs.lemmas.Bool.{eqb-false}
use Rattle.std.proofs.lemmas.Option.{same_Some, none-some, get_or_from_slice_get, slice_get_within}
use Rattle.std.proofs.lemmas.List.Sums.{sum_by-set}
use Rattle.league_core.specs.declared.sheet.Sheet.{Sheet}
use Rattle.league_core.specs.declared.question.Question.{Question}
use Rattle.league_core.specs.game.Sheets.{IsWithinLimits}
use Rattle.league_core.specs.game.Questions.{IsQuestionOf}
use Rattle.league_core.specs.search.Trees.{Tree, has_open, is_refuted}
use Rattle.league_core.proofs.LendingLemmas.{settled_is_refuted}
use Rattle.reason_core.specs.declared.done.Done.{Done}
use Rattle.reason_core.specs.declared.done.Done.TheVariants.{Refuted, Split, Won, Undone}
use Rattle.reason_core.specs.inside.Dones.{finding_of}
use Rattle.tree_arena.specs.declared.example.Example.{Example}
use Rattle.branch_pool.specs.declared.question_state.QuestionState.{QuestionState}
use Rattle.branch_pool.specs.declared.ticket.Answer.TheVariants as answer
use Rattle.branch_pool.specs.declared.ticket.Ticket.{Ticket}
use Rattle.branch_pool.specs.inside.States.{PoolView, pool_begun, has_work, out_count, is_workable}
use Rattle.branch_pool.specs.inside.States.{most_questions}
use Rattle.branch_pool.specs.inside.Steps.{TakesLeaf, Keeps, seat_lent, seat_after}
use Rattle.branch_pool.specs.inside.Goodness.{IsSoundPool, IsGood, IsGoodSeat}
use Rattle.branch_pool.specs.inside.Calls.{pool_answer, answer_of}
use Rattle.branch_pool.specs.inside.Runs.{Step, take_step, give_step, change_step, start_step}
use Rattle.branch_pool.specs.inside.Runs.{shut_step, recall_step, adopt_step, adopt_all_step}
use Rattle.branch_pool.specs.inside.Runs.{MakesStep, Move, AreSteps, pool_after, IsWorked}
use Rattle.branch_pool.specs.inside.Runs.{WorksNext, seat_left, work_left}
use Rattle.branch_pool.proofs.QuestionStateLemmas.{workable_within}
use Rattle.branch_pool.proofs.GoodLemmas.{sound_is_good, none_lent_at}
use Rattle.branch_pool.proofs.StepLemmas.{begun_sound, taken_sound, given_sound, kept_sound}
use Rattle.branch_pool.proofs.StepLemmas.{changed_sound, opened_sound, shut_sound, recalled_sound}
use Rattle.branch_pool.proofs.AdoptLemmas.{adopted_sound}
use Rattle.branch_pool.proofs.AdoptAllLemmas.{all_adopted_sound}
use Rattle.league_core.proofs.plain.Slots.{All-at, set_twice, slice_get-set_same, none_at}

-- ---- steps

-- each step keeps the pool sound
pub step_sound : (old : PoolView) (step : Step) (new : PoolView) → IsSoundPool old
    → MakesStep old step new → IsSoundPool new
step_sound old (take_step ticket) new sound leads = taken_sound old ticket new sound leads
step_sound old (give_step ticket done gave) new sound leads =
    given_sound old ticket done gave new sound leads.0 leads.1
step_sound old (change_step event) new sound leads =
    subst IsSoundPool (sym leads.after) (changed_sound old event sound leads.room leads.may_be)
step_sound old start_step new sound leads = subst IsSoundPool (sym leads) (opened_sound old sound)
step_sound old shut_step new sound leads = subst IsSoundPool (sym leads) (shut_sound old sound)
step_sound old recall_step new sound leads = subst IsSoundPool (sym leads) (recalled_sound old
    sound)
step_sound old (adopt_step place tree) new sound leads = adopted_sound old place tree new sound
    leads
step_sound old (adopt_all_step trees) new sound leads =
    subst IsSoundPool (sym leads.1) (all_adopted_sound old trees sound leads.0)

-- and so do all of a list
pub steps_sound : (pool : PoolView) (moves : List Move) → IsSoundPool pool → AreSteps pool moves
    → IsSoundPool (pool_after pool moves)
steps_sound pool [] sound steps = sound
steps_sound pool (move ∷ moves) sound steps =
    steps_sound move.after moves (step_sound pool move.step move.after sound steps.0) steps.1

-- from its beginning on a pool is good
pub steps_are_good : (sheet : Sheet) (questions : List Question) (moves : List Move)
    → IsWithinLimits sheet → All (IsQuestionOf sheet) questions
    → length questions ≤ most_questions → AreSteps (pool_begun sheet questions) moves
    → IsGood (pool_after (pool_begun sheet questions) moves)
steps_are_good sheet questions moves limits of_sheet few steps =
    sound_is_good (pool_after (pool_begun sheet questions) moves)
    (steps_sound (pool_begun sheet questions) moves (begun_sound sheet questions limits of_sheet
    few)
    steps)

-- a turn of work keeps the pool sound
pub turn_sound : (old new : PoolView) → IsSoundPool old → WorksNext old new → IsSoundPool new
turn_sound old new sound works =
    kept_sound works.between works.ticket works.done new
    (taken_sound old works.ticket works.between sound works.taken.takes) works.given works.kept

-- ---- less and less is left

-- a list in which one element counts for less counts for less
sum_less : (f : QuestionState → ℕ) (seats : List QuestionState) (place : ℕ)
    (seat new : QuestionState)
    → slice_get seats place ≡ Some seat → f new < f seat
    → sum_by f (set seats place new) < sum_by f seats
sum_less f seats place seat new found less =
    let is = get_or_from_slice_get seats place seat seat found in
    let both = rw is at (sum_by-set f seats place new seat (slice_get_within seats place seat
    found)) in
    omega (arith, both, less)

-- a question of which a leaf was worked on has less left
turn_less : (sheet : Sheet) (seat : QuestionState) (tree : Tree) (number : ℕ) (done : Done)
    → is_workable sheet seat ≡ true → IsWorked done
    → seat_left sheet.budget (seat_after number (finding_of done) (seat_lent tree seat))
    < seat_left sheet.budget seat
turn_less sheet seat tree number done workable worked = by_example seat.example refl done worked
  where
    within : seat.units + seat.lent < sheet.budget
    within = (workable_within sheet seat workable).1

    one_less : suc (sheet.budget - (seat.units + 1)) < suc (sheet.budget - seat.units)
    one_less = omega (arith, within)

    some : 0 < suc (sheet.budget - seat.units)
    some = omega arith

    by_example : (kept : Option Example) → seat.example ≡ kept → (what : Done) → IsWorked what
        → seat_left sheet.budget (seat_after number (finding_of what) (seat_lent tree seat))
        < seat_left sheet.budget seat
    by_example (Some example) is what did = absurd (false≢true (ap is_none (sym is)
        ∙ (and_parts _ _ (and_parts _ _ workable).0).0))
    by_example None is (Refuted piece reason) did = rw is one_less
    by_example None is (Split piece literal) did = rw is one_less
    by_example None is (Won piece finish lots) did = rw is some
    by_example None is Undone did = absurd did

-- a turn of work leaves less to do
pub turns_leave_less : (old new : PoolView) → IsSoundPool old → WorksNext old new
    → work_left new < work_left old
turns_leave_less old new sound works = rw (same_sheet, seats_are)
    (sum_less (seat_left old.sheet.budget) old.seats ticket.place taken.seat
    (seat_after ticket.number (finding_of works.done) (seat_lent taken.tree taken.seat)) taken.found
    (turn_less old.sheet taken.seat taken.tree ticket.number works.done taken.workable
    works.worked))
  where
    ticket : Ticket
    ticket = works.ticket

    taken : TakesLeaf old works.ticket works.between
    taken = works.taken.takes

    kept : Keeps works.between works.ticket works.done new
    kept = works.kept

    same_sheet : new.sheet ≡ old.sheet
    same_sheet = ap (λ (p : PoolView). p.sheet) kept.after
        ∙ ap (λ (p : PoolView). p.sheet) taken.after

    between_seats : works.between.seats
        ≡ set old.seats ticket.place (seat_lent taken.tree taken.seat)
    between_seats = ap (λ (p : PoolView). p.seats) taken.after

    same_seat : kept.seat ≡ seat_lent taken.tree taken.seat
    same_seat = same_Some kept.seat (seat_lent taken.tree taken.seat)
        (sym kept.found ∙ ap (λ seats. slice_get seats ticket.place) between_seats
        ∙ slice_get-set_same old.seats ticket.place taken.seat
        (seat_lent taken.tree taken.seat) taken.found)

    seats_are : new.seats ≡ set old.seats ticket.place
        (seat_after ticket.number (finding_of works.done) (seat_lent taken.tree taken.seat))
    seats_are =
        ap (λ (p : PoolView). p.seats) kept.after
        ∙ ap (λ seats. set seats ticket.place
        (seat_after ticket.number (finding_of works.done) kept.seat)) between_seats
        ∙ set_twice old.seats ticket.place (seat_lent taken.tree taken.seat)
        (seat_after ticket.number (finding_of works.done) kept.seat)
        ∙ ap (λ seat. set old.seats ticket.place
        (seat_after ticket.number (finding_of works.done) seat)) same_seat

-- ---- nothing left

-- where nothing is out and there is no work, no question is not answered yet
pub no_work_answers : (pool : PoolView) (place : ℕ) → IsSoundPool pool → out_count pool.loans ≡ 0
    → has_work pool ≡ false → pool_answer pool place ≢ Some answer.NotYet
no_work_answers pool place sound none idle not_yet =
    by_seat (slice_get pool.seats place) refl not_yet
  where
    settled : (seat : QuestionState) → slice_get pool.seats place ≡ Some seat
        → (kept : Option Example)
        → seat.example ≡ kept → (refuted : Bool) → is_refuted seat.tree ≡ refuted → (spent : Bool)
        → (seat.units == pool.sheet.budget) ≡ spent
        → answer_of pool.sheet seat ≡ answer.NotYet → ⊥
    settled seat found (Some example) kept refuted tree spent units is =
        let won : answer.Won ≡ answer.NotYet = rw kept at is in cc
    settled seat found None kept true tree spent units is =
        let so : answer.Refuted ≡ answer.NotYet = rw (kept, tree) at is in cc
    settled seat found None kept false tree true units is =
        let so : answer.Spent ≡ answer.NotYet = rw (kept, tree, units) at is in cc
    settled seat found None kept false tree false units is =
        let good = All-at (IsGoodSeat pool.sheet pool.season) pool.seats place seat sound.seats
        found in
        let nothing = none_lent_at pool place seat sound none found in
        let fewer : seat.units + seat.lent < pool.sheet.budget =
        (let differ = eqb-false seat.units pool.sheet.budget units in
        omega (arith, good.within, good.lent, nothing, differ)) in
        elim (cases_Bool (has_open seat.tree)) as (λ _. ⊥) [
          | inl open' ↦ both_ways (is_workable pool.sheet seat)
              (none_at (is_workable pool.sheet) pool.seats place seat idle found)
              (rw kept (and_from (has_open seat.tree)
              (nat_lt (seat.units + seat.lent) pool.sheet.budget) open'
              (lt-ltb (seat.units + seat.lent) pool.sheet.budget fewer)))
          | inr closed ↦ both_ways (is_refuted seat.tree) tree
              (settled_is_refuted seat.tree closed nothing)
        ]

    by_seat : (found : Option QuestionState) → slice_get pool.seats place ≡ found
        → option_map (answer_of pool.sheet) found ≡ Some answer.NotYet → ⊥
    by_seat None at is = none-some answer.NotYet is
    by_seat (Some seat) at is =
        settled seat at seat.example refl (is_refuted seat.tree) refl
        (seat.units == pool.sheet.budget) refl
        (same_Some (answer_of pool.sheet seat) answer.NotYet is)
