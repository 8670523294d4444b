-- What the calls need of the fields before they change them: that a leaf may be lent, that what is
-- out is where its ticket says, and that it may come back.
use Rattle.std.proofs.Common.{◌≡◌, ◌≢◌, ℕ, zero, suc, ◌+◌, ◌^◌, ◌<◌, ◌≤◌, Bool, true, false, List}
use Rattle.std.proofs.Common.{[], ◌∷◌, length, Option, Some, None, refl, sym, ap, ◌∙◌, arith, set}
use Rattle.std.specs.Prelude.{IfSome, position}
use Rattle.std.specs.List.{slice_get}
use Rattle.std.specs.Option.{option_or}
use Rattle.std.proofs.lemmas.Bool.{and_parts}
use Rattle.std.proofs.lemmas.Option.{same_Some, none-some}
use Rattle.std.proofs.lemmas.List.Quantifiers.{position-Some}
use Rattle.league_core.specs.declared.zone.Zone.{Zone}
use Rattle.reason_core.specs.declared.finding.Finding.{Finding}
use Rattle.reason_core.specs.inside.Dones.{IsTrueOf, done_with}
use Rattle.reason_core.proofs.DoneLemmas.{done_is_for, done_is_true, finding_of-done_with}
use Rattle.league_core.specs.inside.Lending.{lent_zones, times_lent}
use Rattle.league_core.proofs.LendingLemmas.{length-lent_zones, times_lent-le}
use Rattle.branch_pool.specs.declared.question_state.QuestionState.{QuestionState}
use Rattle.branch_pool.specs.declared.question_state.Loan.{Loan}
use Rattle.branch_pool.specs.declared.ticket.Ticket.{Ticket}
use Rattle.branch_pool.specs.inside.States.{PoolView, present_epoch, is_workable, has_work, loan_at}
use Rattle.branch_pool.specs.inside.States.{free_number, with_loan}
use Rattle.branch_pool.specs.inside.Steps.{IsOwnTicket, IsPresent, loan_of, ComesHome, Keeps}
use Rattle.branch_pool.specs.inside.Steps.{loans_home, seat_after, MayBeGiven}
use Rattle.branch_pool.specs.inside.QuestionStates.{LendsSeat, MayLend}
use Rattle.branch_pool.specs.inside.Goodness.{IsSoundPool, IsGoodSeat, IsGoodLoan, zones_due}
use Rattle.branch_pool.specs.inside.Calls.{next_place, is_untouched, LendsNext}
use Rattle.branch_pool.proofs.SlotLemmas.{loan_at-free, loan_meets}
use Rattle.branch_pool.proofs.QuestionStateLemmas.{workable_within, lent_once}
use Rattle.branch_pool.proofs.LoanLemmas.{due_here}
use Rattle.league_core.proofs.plain.Slots.{All-at}
use Rattle.league_core.proofs.plain.Places.{none_passes, passes_there}

-- ---- take

-- the question that comes next has work
pub next_is_workable : (pool : PoolView) (place : ℕ) (seat : QuestionState)
    → next_place pool ≡ Some place → slice_get pool.seats place ≡ Some seat
    → is_workable pool.sheet seat ≡ true
next_is_workable pool place seat next found =
    by_first (position (is_untouched pool.sheet) pool.seats) refl next
  where
    by_first : (first : Option ℕ) → position (is_untouched pool.sheet) pool.seats ≡ first
        → option_or first (position (is_workable pool.sheet) pool.seats) ≡ Some place
        → is_workable pool.sheet seat ≡ true
    by_first None at is = passes_there (is_workable pool.sheet) pool.seats place seat is found
    by_first (Some other) at is =
        (and_parts _ _ (passes_there (is_untouched pool.sheet) pool.seats place seat (at ∙ is)
        found)).0

-- it is one of the questions
pub next_within : (pool : PoolView) (place : ℕ) → next_place pool ≡ Some place
    → place < length pool.seats
next_within pool place next =
    by_first (position (is_untouched pool.sheet) pool.seats) refl next
  where
    by_first : (first : Option ℕ) → position (is_untouched pool.sheet) pool.seats ≡ first
        → option_or first (position (is_workable pool.sheet) pool.seats) ≡ Some place
        → place < length pool.seats
    by_first None at is = within (is_workable pool.sheet) pool.seats is
      where
        within : (p : QuestionState → Bool) (seats : List QuestionState)
            → position p seats ≡ Some place
            → place < length seats
        within p [] none = absurd (none-some place none)
        within p (seat ∷ seats) some = (position-Some p (seat ∷ seats) place seat some).0
    by_first (Some other) at is = within (is_untouched pool.sheet) pool.seats (at ∙ is)
      where
        within : (p : QuestionState → Bool) (seats : List QuestionState)
            → position p seats ≡ Some place
            → place < length seats
        within p [] none = absurd (none-some place none)
        within p (seat ∷ seats) some = (position-Some p (seat ∷ seats) place seat some).0

-- a leaf of the question that comes next may be lent
pub may_lend : (pool : PoolView) (place : ℕ) (seat : QuestionState) → IsSoundPool pool
    → next_place pool ≡ Some place → slice_get pool.seats place ≡ Some seat
    → MayLend (free_number pool.loans) seat
may_lend pool place seat sound next found =
    let good = All-at (IsGoodSeat pool.sheet pool.season) pool.seats place seat sound.seats found in
    let workable = workable_within pool.sheet seat (next_is_workable pool place seat next found) in
    let budget = sound.limits.most_budget in
    record {
      some = workable.0;
      free = sym (length-lent_zones (free_number pool.loans) seat.tree [])
          ∙ ap length (sound.due (free_number pool.loans) place seat found)
          ∙ ap (λ out. length (zones_due (present_epoch pool) place out)) (loan_at-free pool.loans);
      few = omega (arith, good.few, good.lent, good.within, budget);
      fits = omega (arith, workable.1, budget);
      units_fit = omega (arith, workable.1, budget);
    }

-- ---- give

-- what is out under a number is one of the loans
pub out_within : (loans : List (Option Loan)) (number : ℕ) (loan : Loan)
    → loan_at loans number ≡ Some loan → number < length loans
out_within [] number loan out = absurd (none-some loan out)
out_within (first ∷ loans) zero loan out = omega arith
out_within (first ∷ loans) (suc number) loan out =
    let within = out_within loans number loan out in omega arith

-- a ticket that is out is for one of the questions, in an epoch that has been
pub out_is_good : (pool : PoolView) (ticket : Ticket) → IsSoundPool pool
    → loan_at pool.loans ticket.number ≡ Some (loan_of ticket)
    → (ticket.epoch ≤ present_epoch pool) × (ticket.place < length pool.seats)
out_is_good pool ticket sound out =
    let good = loan_meets (IsGoodLoan (present_epoch pool) (length pool.seats)) pool.loans
    ticket.number (loan_of ticket) sound.loans out in
    (good.has_been, good.in_range)

-- where what is out is of the present epoch, the leaf is lent with its zone
pub out_is_lent : (pool : PoolView) (ticket : Ticket) (seat : QuestionState) → IsSoundPool pool
    → loan_at pool.loans ticket.number ≡ Some (loan_of ticket)
    → ticket.epoch ≡ present_epoch pool → slice_get pool.seats ticket.place ≡ Some seat
    → lent_zones ticket.number [] seat.tree ≡ ticket.piece.zone.literals ∷ []
out_is_lent pool ticket seat sound out epoch found =
    sound.due ticket.number ticket.place seat found
    ∙ ap (zones_due (present_epoch pool) ticket.place) out
    ∙ due_here (present_epoch pool) ticket.place (loan_of ticket) epoch refl

-- what a question needs to take back a leaf
pub record MayTakeBack (number : ℕ) (seat : QuestionState) : Type 0 where
  pub out : times_lent number seat.tree ≡ 1
  pub some : 0 < seat.lent
  pub fits : seat.units + 1 < 2 ^ 32

pub may_take_back : (pool : PoolView) (ticket : Ticket) (seat : QuestionState) → IsSoundPool pool
    → IsOwnTicket pool ticket → ticket.epoch ≡ present_epoch pool
    → slice_get pool.seats ticket.place ≡ Some seat → MayTakeBack ticket.number seat
may_take_back pool ticket seat sound own epoch found =
    let good = All-at (IsGoodSeat pool.sheet pool.season) pool.seats ticket.place seat sound.seats
    found in
    let once = lent_once ticket.number seat.tree ticket.piece.zone.literals
    (out_is_lent pool ticket seat sound own.out epoch found) in
    let among = times_lent-le ticket.number seat.tree in
    let budget = sound.limits.most_budget in
    record {
      out = once;
      some = omega (arith, once, among, good.lent);
      fits = omega (arith, good.within, budget);
    }

-- ---- what the calls leave

-- where no question comes next there is no work
pub no_next : (pool : PoolView) → next_place pool ≡ None → has_work pool ≡ false
no_next pool none =
    by_first (position (is_untouched pool.sheet) pool.seats) none
  where
    by_first : (first : Option ℕ)
        → option_or first (position (is_workable pool.sheet) pool.seats) ≡ None
        → has_work pool ≡ false
    by_first None is = none_passes (is_workable pool.sheet) pool.seats is
    by_first (Some place) is = absurd (none-some place (sym is))

-- fields that are seen as before are sound as before
pub same_after : (pool : PoolView) (seats : List QuestionState) (loans : List (Option Loan))
    → IsSoundPool pool → seats ≡ pool.seats → loans ≡ pool.loans
    → IsSoundPool (record pool { seats = seats; loans = loans })
same_after pool seats loans sound same_seats same_loans = rw (same_seats, same_loans) sound

-- a leaf of the question that comes next was lent
pub lent_after : (pool : PoolView) (ticket : Ticket) (seat new : QuestionState)
    (loans : List (Option Loan)) (kept : Zone) → next_place pool ≡ Some ticket.place
    → slice_get pool.seats ticket.place ≡ Some seat → ticket.number ≡ free_number pool.loans
    → LendsSeat ticket.number seat new ticket.piece.zone kept
    → ticket.epoch ≡ present_epoch pool → ticket.piece.season ≡ pool.season
    → ticket.piece.question ≡ seat.question
    → loans ≡ with_loan pool.loans ticket.number
    (record { epoch = ticket.epoch; place = ticket.place; zone = kept })
    → LendsNext pool ticket (record pool { seats = set pool.seats ticket.place new; loans = loans })
lent_after pool ticket seat new loans kept next found number lends epoch season asked is = record {
  takes = record {
    seat = seat;
    tree = new.tree;
    found = found;
    workable = next_is_workable pool ticket.place seat next found;
    number = number;
    leaf = lends.leaf;
    zone = lends.lent;
    epoch = epoch;
    season = season;
    question = asked;
    after = rw (is, lends.same, ← lends.is) refl;
  };
  next = next;
  first = lends.first;
}

-- a ticket of an earlier epoch came home
pub home_after : (pool : PoolView) (ticket : Ticket) (loans : List (Option Loan))
    → IsSoundPool pool
    → IsOwnTicket pool ticket → ticket.epoch ≢ present_epoch pool
    → loans ≡ loans_home pool.loans ticket.number
    → ComesHome pool ticket (record pool { loans = loans })
home_after pool ticket loans sound own other is =
    let has_been = (out_is_good pool ticket sound own.out).0 in
    record { own = own; epoch = omega arith; after = rw is refl }

-- what was found may be given
pub found_may_be_given : (pool : PoolView) (ticket : Ticket) (finding : Option Finding)
    → IfSome finding (IsTrueOf pool.sheet ticket.piece)
    → MayBeGiven pool ticket (done_with ticket.piece finding)
found_may_be_given pool ticket finding sound = record {
  is_for = done_is_for ticket.piece finding;
  sound = done_is_true pool.sheet ticket.piece finding sound;
}

-- what was found was put in place
pub kept_after : (pool : PoolView) (ticket : Ticket) (finding : Option Finding)
    (seat new : QuestionState) (loans : List (Option Loan)) → IsOwnTicket pool ticket
    → ticket.epoch ≡ present_epoch pool → slice_get pool.seats ticket.place ≡ Some seat
    → new ≡ seat_after ticket.number finding seat
    → loans ≡ loans_home pool.loans ticket.number
    → Keeps pool ticket (done_with ticket.piece finding) (record pool {
      seats = set pool.seats ticket.place new;
      loans = loans;
    })
kept_after pool ticket finding seat new loans own epoch found is home = record {
  own = own;
  epoch = epoch;
  seat = seat;
  found = found;
  after = rw (is, home, finding_of-done_with ticket.piece finding) refl;
}

-- a ticket of the present epoch that is out is the pool's where its question and season are
pub present_is : (pool : PoolView) (ticket : Ticket) (seat : QuestionState) → IsSoundPool pool
    → loan_at pool.loans ticket.number ≡ Some (loan_of ticket)
    → ticket.epoch ≡ present_epoch pool → slice_get pool.seats ticket.place ≡ Some seat
    → seat.question ≡ ticket.piece.question → pool.season ≡ ticket.piece.season
    → IsPresent pool ticket
present_is pool ticket seat sound out epoch found question season = record {
  seat = seat;
  found = found;
  season = sym season;
  question = sym question;
  zone = out_is_lent pool ticket seat sound out epoch found;
}

-- its question is the one at its place
pub present_question : (pool : PoolView) (ticket : Ticket) (seat : QuestionState)
    → IsPresent pool ticket
    → slice_get pool.seats ticket.place ≡ Some seat → seat.question ≡ ticket.piece.question
present_question pool ticket seat present found =
    ap (λ (s : QuestionState). s.question) (same_Some seat present.seat (sym found ∙ present.found))
    ∙ sym present.question
