-- A tree that is adopted keeps the pool sound: what its season leaves of it is good there, nothing
-- of it is lent, and nothing is out.
use Rattle.std.proofs.Common.{◌≡◌, ℕ, ◌<◌, get_or, ◌==◌, [], length, Some, refl, sym, ap, ◌∙◌, set}
use Rattle.std.proofs.Common.{subst, length-set, inl, inr, Option, None}
use Rattle.std.specs.Prelude.{IfSome}
use Rattle.std.specs.List.{slice_get}
use Rattle.std.specs.Option.{option_map}
use Rattle.std.proofs.lemmas.Bool.{eqb-true, eqb-false, cases_Bool}
use Rattle.std.proofs.lemmas.Option.{same_Some, none-some}
use Rattle.std.proofs.lemmas.List.Elements.{All-set}
use Rattle.league_core.specs.declared.question.Question.{Question}
use Rattle.league_core.specs.search.Trees.{Tree}
use Rattle.league_core.specs.inside.Lending.{lent_zones}
use Rattle.league_core.proofs.LendingLemmas.{lent_zones_absent}
use Rattle.tree_reuse.specs.Asked.{IsAskedTree}
use Rattle.tree_arena.specs.inside.Calls.{AreTestsOf}
use Rattle.tree_reuse.specs.Retargets.{retargeted}
use Rattle.tree_reuse.proofs.RetargetLemmas.{asked_tests, proper_asked, times_lent-retargeted}
use Rattle.branch_pool.specs.declared.question_state.QuestionState.{QuestionState}
use Rattle.branch_pool.specs.inside.States.{PoolView, loan_at, present_epoch, out_count}
use Rattle.branch_pool.specs.inside.Steps.{Adopts, seat_adopted}
use Rattle.branch_pool.specs.inside.Calls.{tree_at}
use Rattle.branch_pool.specs.inside.Goodness.{IsSoundPool, IsGoodSeat, zones_due}
use Rattle.branch_pool.proofs.SlotLemmas.{nothing_out}
use Rattle.branch_pool.proofs.CarriedLemmas.{retargeted_good}
use Rattle.branch_pool.proofs.StepLemmas.{asked-set}
use Rattle.branch_pool.proofs.GoodLemmas.{asked_there, sound_places, none_lent_at, seat_proper}
use Rattle.league_core.proofs.plain.Slots.{All-at, found_at, slice_get-set_same}
use Rattle.league_core.proofs.plain.Slots.{slice_get-set_other}

-- a question with what its season leaves of the tree is good
pub adopted_good : (old : PoolView) (place : ℕ) (tree : Tree) (seat : QuestionState)
    → IsSoundPool old → out_count old.loans ≡ 0 → slice_get old.seats place ≡ Some seat
    → IsAskedTree old.sheet seat.question tree
    → IsGoodSeat old.sheet old.season (seat_adopted old.sheet old.season tree seat)
adopted_good old place tree seat sound home found asked =
    let was_good = All-at (IsGoodSeat old.sheet old.season) old.seats place seat sound.seats
    found in
    retargeted_good old.sheet old.season tree seat seat.lent seat.example asked
    (was_good.lent ∙ none_lent_at old place seat sound home found) was_good.example

-- it lends nothing, as nothing is out
pub adopted_due : (old : PoolView) (tree : Tree) (seat : QuestionState) (number place : ℕ)
    → out_count old.loans ≡ 0
    → lent_zones number [] (seat_adopted old.sheet old.season tree seat).tree
    ≡ zones_due (present_epoch old) place (loan_at old.loans number)
adopted_due old tree seat number place home =
    lent_zones_absent number (retargeted old.sheet old.season seat.question tree) []
    (times_lent-retargeted old.sheet old.season seat.question tree number)
    ∙ sym (ap (zones_due (present_epoch old) place) (nothing_out old.loans number home))

pub adopted_sound : (old : PoolView) (place : ℕ) (tree : Tree) (new : PoolView)
    → IsSoundPool old → Adopts old place tree new → IsSoundPool new
adopted_sound old place tree new sound adopts =
    subst IsSoundPool (sym adopts.after) (record {
      limits = sound.limits;
      season = sound.season;
      events = sound.events;
      most_events = sound.most_events;
      asked = asked-set old.seats place adopts.seat after adopts.found refl ∙ sound.asked;
      questions = sound.questions;
      most_questions = sound.most_questions;
      seats = All-set (IsGoodSeat old.sheet old.season) old.seats place after
          (adopted_good old place tree adopts.seat sound adopts.home adopts.found adopts.asked)
          sound.seats;
      loans = rw (length-set old.seats place after) sound.loans;
      due = due;
    })
  where
    after : QuestionState
    after = seat_adopted old.sheet old.season tree adopts.seat

    due : (number other : ℕ) (seat : QuestionState)
        → slice_get (set old.seats place after) other ≡ Some seat
        → lent_zones number [] seat.tree
        ≡ zones_due (present_epoch old) other (loan_at old.loans number)
    due number other seat found =
        elim (cases_Bool (other == place)) as (λ _. lent_zones number [] seat.tree
        ≡ zones_due (present_epoch old) other (loan_at old.loans number)) [
          | inl here ↦
              let same : after ≡ seat = same_Some after seat
              (sym (slice_get-set_same old.seats place adopts.seat after adopts.found)
              ∙ ap (slice_get (set old.seats place after)) (sym (eqb-true other place here))
              ∙ found) in
              ap (λ (s : QuestionState). lent_zones number [] s.tree) (sym same)
              ∙ adopted_due old tree adopts.seat number other adopts.home
          | inr elsewhere ↦
              sound.due number other seat
              (sym (slice_get-set_other old.seats place other after
              (eqb-false other place elsewhere)) ∙ found)
        ]

-- ---- the call

-- what is asked of the call
pub record MayAdopt (pool : PoolView) (place : ℕ) (tree : Tree) : Type 0 where
  pub in_range : place < length pool.questions
  pub home : out_count pool.loans ≡ 0
  pub asked : IfSome (slice_get pool.questions place) (λ q. IsAskedTree pool.sheet q tree)

-- the same, of the question that is read there
asked_of : (pool : PoolView) (place : ℕ) (question : Question) (tree : Tree)
    → MayAdopt pool place tree → question ≡ get_or pool.questions place question
    → IsAskedTree pool.sheet question tree
asked_of pool place question tree may read =
    rw (found_at pool.questions place question may.in_range read) at may.asked

pub adopt_tests : (pool : PoolView) (place : ℕ) (question : Question) (tree : Tree)
    → MayAdopt pool place tree → question ≡ get_or pool.questions place question
    → AreTestsOf pool.sheet tree
adopt_tests pool place question tree may read =
    asked_tests pool.sheet question [] tree (asked_of pool place question tree may read)

-- what the call leaves
pub adopt_after : (pool : PoolView) (place : ℕ) (seat : QuestionState) (question : Question)
    (tree kept : Tree) → IsSoundPool pool → MayAdopt pool place tree
    → seat ≡ get_or pool.seats place seat → question ≡ get_or pool.questions place question
    → kept ≡ retargeted pool.sheet pool.season question tree
    → Adopts pool place tree
    (record pool { seats = set pool.seats place (record seat { tree = kept; units = 0 }) })
adopt_after pool place seat question tree kept sound may seat_read read is = record {
  seat = seat;
  found = found;
  home = may.home;
  asked = subst (λ q. IsAskedTree pool.sheet q tree) same
      (asked_of pool place question tree may read);
  after = ap (λ (t : Tree). record pool {
    seats = set pool.seats place (record seat { tree = t; units = 0 });
  })
      (is ∙ ap (λ q. retargeted pool.sheet pool.season q tree) same);
}
  where
    found : slice_get pool.seats place ≡ Some seat
    found = found_at pool.seats place seat (rw (sound_places pool sound) may.in_range) seat_read

    same : question ≡ seat.question
    same = same_Some question seat.question
        (sym (found_at pool.questions place question may.in_range read)
        ∙ asked_there pool place seat sound found)

-- ---- a pool's own trees

-- a tree of a pool may be adopted for its question
pub own_asked : (pool : PoolView) (place : ℕ) (tree : Tree) → IsSoundPool pool
    → tree_at pool place ≡ Some tree
    → IfSome (slice_get pool.questions place) (λ q. IsAskedTree pool.sheet q tree)
own_asked pool place tree sound is = by_seat (slice_get pool.seats place) refl is
  where
    by_seat : (found : Option QuestionState) → slice_get pool.seats place ≡ found
        → option_map (λ (s : QuestionState). s.tree) found ≡ Some tree
        → IfSome (slice_get pool.questions place) (λ q. IsAskedTree pool.sheet q tree)
    by_seat None at same = absurd (none-some tree same)
    by_seat (Some seat) at same =
        rw (asked_there pool place seat sound at)
        (subst (IsAskedTree pool.sheet seat.question) (same_Some seat.tree tree same)
        (proper_asked pool.sheet pool.season seat.question [] seat.tree
        (seat_proper pool.sheet pool.season seat
        (All-at (IsGoodSeat pool.sheet pool.season) pool.seats place seat sound.seats at))))
