-- A turn of work in a leaf's place is a take and then a give.
use Rattle.std.proofs.Common.{◌≡◌, ℕ, zero, suc, ◌+◌, ◌<◌, ◌≤◌, List, [], ◌∷◌, ◌++◌, length, Option}
use Rattle.std.proofs.Common.{Some, None, refl, sym, ap, ◌∙◌, set, arith, cond}
use Rattle.std.specs.Prelude.{is_some}
use Rattle.std.specs.List.{slice_get}
use Rattle.std.proofs.lemmas.List.Sums.{sum_by-cons}
use Rattle.reason_core.specs.declared.piece.Piece.{Piece}
use Rattle.reason_core.specs.declared.finding.Finding.{Finding}
use Rattle.reason_core.specs.declared.finding.Finding.TheVariants.{Refuted, Split, Won}
use Rattle.reason_core.specs.declared.done.Done.{Done}
use Rattle.reason_core.specs.inside.Dones.{done_of, finding_of}
use Rattle.reason_core.proofs.DoneLemmas.{finding_of-done_with}
use Rattle.branch_pool.specs.declared.question_state.QuestionState.{QuestionState}
use Rattle.branch_pool.specs.declared.question_state.Loan.{Loan}
use Rattle.branch_pool.specs.declared.ticket.Ticket.{Ticket}
use Rattle.branch_pool.specs.inside.States.{PoolView, present_epoch, free_number, with_loan}
use Rattle.branch_pool.specs.inside.States.{out_count}
use Rattle.branch_pool.specs.inside.Steps.{TakesLeaf, IsOwnTicket, pool_lent, seat_lent, seat_after}
use Rattle.branch_pool.specs.inside.Steps.{loan_of, loans_home}
use Rattle.branch_pool.specs.inside.QuestionStates.{WorksSeat, with_slot}
use Rattle.branch_pool.specs.inside.Goodness.{IsSoundPool}
use Rattle.branch_pool.specs.inside.Calls.{next_place}
use Rattle.branch_pool.specs.inside.Runs.{IsWorked, WorksNext, IsSameButSeats}
use Rattle.branch_pool.proofs.SlotLemmas.{free_number-le, loan_at-with_same}
use Rattle.branch_pool.proofs.CallLemmas.{found_may_be_given, next_is_workable}
use Rattle.league_core.proofs.plain.Slots.{set_twice, slice_get-set_same}

-- ---- places for numbers

-- a loan that was put and came home leaves its place
home_slot : (loans : List (Option Loan)) (number : ℕ) (loan : Loan) → number ≤ length loans
    → set (with_loan loans number loan) number None ≡ with_slot loans number
home_slot [] zero loan few = refl
home_slot [] (suc number) loan few = absurd (omega arith)
home_slot (first ∷ loans) zero loan few = refl
home_slot (first ∷ loans) (suc number) loan few =
    ap (λ rest. first ∷ rest) (home_slot loans number loan (omega arith))

-- a place for the free number: the one that is there, or one at the end
pub slot_there : (loans : List (Option Loan)) (number : ℕ) → number ≡ free_number loans
    → number < length loans → loans ≡ with_slot loans number
slot_there [] number is within = absurd (omega arith)
slot_there (None ∷ loans) zero is within = refl
slot_there (None ∷ loans) (suc number) is within = absurd (omega arith)
slot_there (Some loan ∷ loans) zero is within = absurd (omega arith)
slot_there (Some loan ∷ loans) (suc number) is within =
    ap (λ rest. Some loan ∷ rest) (slot_there loans number (omega arith) (omega arith))

pub slot_after : (loans : List (Option Loan)) (number : ℕ) → number ≡ free_number loans
    → length loans ≤ number → loans ++ None ∷ [] ≡ with_slot loans number
slot_after [] number is past = refl
slot_after (None ∷ loans) zero is past = absurd (omega arith)
slot_after (None ∷ loans) (suc number) is past = absurd (omega arith)
slot_after (Some loan ∷ loans) zero is past = absurd (omega arith)
slot_after (Some loan ∷ loans) (suc number) is past =
    ap (λ rest. Some loan ∷ rest) (slot_after loans number (omega arith) (omega arith))

-- as many are out as before
pub out_count-slot : (loans : List (Option Loan)) (number : ℕ) → number ≡ free_number loans
    → out_count (with_slot loans number) ≡ out_count loans
out_count-slot [] number is = refl
out_count-slot (None ∷ loans) zero is = refl
out_count-slot (None ∷ loans) (suc number) is = absurd (omega arith)
out_count-slot (Some loan ∷ loans) zero is = absurd (omega arith)
out_count-slot (Some loan ∷ loans) (suc number) is =
    let count = λ (out : Option Loan). cond (is_some out) 1 0 in
    sum_by-cons count (Some loan) (with_slot loans number)
    ∙ ap (λ n. 1 + n) (out_count-slot loans number (omega arith))
    ∙ sym (sum_by-cons count (Some loan) loans)

-- ---- the turn

done_is_worked : (piece : Piece) (finding : Finding) → IsWorked (done_of piece finding)
done_is_worked piece (Refuted reason) = tt
done_is_worked piece (Split literal) = tt
done_is_worked piece (Won finish lots) = tt

-- the question that comes next was worked on in its place
pub worked_after : (pool : PoolView) (place : ℕ) (seat new : QuestionState)
    (loans : List (Option Loan))
    → IsSoundPool pool → next_place pool ≡ Some place → slice_get pool.seats place ≡ Some seat
    → WorksSeat pool.sheet pool.season (free_number pool.loans) seat new
    → loans ≡ with_slot pool.loans (free_number pool.loans)
    → WorksNext pool (record pool { seats = set pool.seats place new; loans = loans })
worked_after pool place seat new loans sound next found works is = record {
  ticket = ticket;
  done = done;
  between = between;
  worked = done_is_worked ticket.piece works.finding;
  taken = record { takes = taken; next = next; first = works.first };
  given = found_may_be_given between ticket (Some works.finding) works.found;
  kept = record {
    own = own;
    epoch = refl;
    seat = seat_lent works.tree seat;
    found = there;
    after = λ i. record pool { seats = seats_are i; loans = loans_are i };
  };
}
  where
    number : ℕ
    number = free_number pool.loans

    ticket : Ticket
    ticket = record {
      number = number;
      epoch = present_epoch pool;
      place = place;
      piece = record {
        season = pool.season;
        question = seat.question;
        zone = record { literals = works.zone };
      };
    }

    done : Done
    done = done_of ticket.piece works.finding

    between : PoolView
    between = pool_lent pool ticket seat works.tree

    taken : TakesLeaf pool ticket between
    taken = record {
      seat = seat;
      tree = works.tree;
      found = found;
      workable = next_is_workable pool place seat next found;
      number = refl;
      leaf = works.leaf;
      zone = works.lent;
      epoch = refl;
      season = refl;
      question = refl;
      after = refl;
    }

    there : slice_get between.seats place ≡ Some (seat_lent works.tree seat)
    there = slice_get-set_same pool.seats place seat (seat_lent works.tree seat) found

    own : IsOwnTicket between ticket
    own = record {
      out = loan_at-with_same pool.loans number (loan_of ticket) (free_number-le pool.loans);
      present = λ now. record {
        seat = seat_lent works.tree seat;
        found = there;
        season = refl;
        question = refl;
        zone = works.lent;
      };
    }

    settled : QuestionState
    settled = seat_after number (finding_of done) (seat_lent works.tree seat)

    found_is : Some works.finding ≡ finding_of done
    found_is = sym (finding_of-done_with ticket.piece (Some works.finding))

    seats_are : set pool.seats place new ≡ set between.seats place settled
    seats_are =
        ap (set pool.seats place) (works.is
        ∙ ap (λ finding. seat_after number finding (seat_lent works.tree seat)) found_is)
        ∙ sym (set_twice pool.seats place (seat_lent works.tree seat) settled)

    loans_are : loans ≡ loans_home between.loans number
    loans_are = is ∙ sym (home_slot pool.loans number (loan_of ticket) (free_number-le pool.loans))

-- all else is as before
pub same_but_seats : (pool : PoolView) (seats : List QuestionState) (loans : List (Option Loan))
    → out_count loans ≡ out_count pool.loans
    → IsSameButSeats pool (record pool { seats = seats; loans = loans })
same_but_seats pool seats loans out = record {
  sheet = refl;
  questions = refl;
  season = refl;
  log = refl;
  is_open = refl;
  out = out;
}
