-- Each step keeps all that the type of pools keeps.
use Rattle.std.proofs.Common.{◌≡◌, ℕ, zero, suc, ◌<◌, ◌≤◌, List, [], ◌∷◌, ◌++◌, length, map, Option}
use Rattle.std.proofs.Common.{Some, None, refl, sym, ap, ◌∙◌, set, subst, arith, inl, inr}
use Rattle.std.proofs.Common.{length-set}
use Rattle.std.specs.Prelude.{IfSome}
use Rattle.std.specs.List.{slice_get, All}
use Rattle.std.proofs.lemmas.Option.{same_Some, none-some, slice_get_within}
use Rattle.std.proofs.lemmas.List.{length-append}
use Rattle.std.proofs.lemmas.List.Sums.{fold_push}
use Rattle.std.proofs.lemmas.List.Elements.{All-nil, All-set, All-map, All-weaker}
use Rattle.league_core.specs.declared.sheet.Sheet.{Sheet}
use Rattle.league_core.specs.declared.season.Event.{Event}
use Rattle.league_core.specs.declared.question.Question.{Question}
use Rattle.league_core.specs.game.Sheets.{IsWithinLimits}
use Rattle.league_core.specs.game.Limits.{most_events}
use Rattle.league_core.specs.game.Results.{Results}
use Rattle.league_core.specs.game.Seasons.{IsEventOf, event_applied, unplayed_season}
use Rattle.league_core.specs.game.Questions.{IsQuestionOf}
use Rattle.league_core.specs.inside.Lending.{lent_zones}
use Rattle.league_core.proofs.LogLemmas.{AreEventsOf-push}
use Rattle.league_core.proofs.LendingLemmas.{lent_zones-all_opened, lent_zones_absent}
use Rattle.tree_reuse.specs.Retargets.{retargeted}
use Rattle.tree_reuse.proofs.RetargetLemmas.{times_lent-retargeted}
use Rattle.reason_core.specs.declared.done.Done.{Done}
use Rattle.reason_core.specs.declared.finding.Finding.{Finding}
use Rattle.reason_core.specs.inside.Dones.{finding_of}
use Rattle.reason_core.proofs.DoneLemmas.{finding_is_true}
use Rattle.branch_pool.specs.declared.question_state.QuestionState.{QuestionState}
use Rattle.branch_pool.specs.declared.question_state.Loan.{Loan}
use Rattle.branch_pool.specs.declared.ticket.Ticket.{Ticket}
use Rattle.branch_pool.specs.declared.ticket.Gave.{Gave}
use Rattle.branch_pool.specs.declared.ticket.Gave.TheVariants.{Kept, Stale}
use Rattle.branch_pool.specs.inside.States.{PoolView, pool_begun, new_seat, loan_at, present_epoch}
use Rattle.branch_pool.specs.inside.States.{most_questions}
use Rattle.branch_pool.specs.inside.Steps.{TakesLeaf, pool_lent, loan_of, seat_lent, Keeps}
use Rattle.branch_pool.specs.inside.Steps.{ComesHome, IsPresent, Gives, leaf_after, MayBeGiven}
use Rattle.branch_pool.specs.inside.Steps.{seat_after, pool_changed, seat_changed, pool_opened}
use Rattle.branch_pool.specs.inside.Steps.{pool_shut, pool_recalled, seat_recalled}
use Rattle.branch_pool.specs.inside.Goodness.{IsSoundPool, IsGoodSeat, IsGoodLoan}
use Rattle.branch_pool.proofs.SlotLemmas.{loan_at-free, free_number-le, All-with_loan}
use Rattle.branch_pool.proofs.QuestionStateLemmas.{seat_lent_good, seat_after_good}
use Rattle.branch_pool.proofs.QuestionStateLemmas.{seat_recalled_good, new_seat_good}
use Rattle.branch_pool.proofs.QuestionStateLemmas.{leaf_lends_nothing}
use Rattle.branch_pool.proofs.LoanLemmas.{Agree-lent, Agree-given, Agree-home, Agree-left}
use Rattle.branch_pool.proofs.CarriedLemmas.{seat_changed_good}
use Rattle.league_core.proofs.plain.Slots.{All-at}

-- ---- lists of seats

-- questions stay where a seat is written that has its question
pub asked-set : (seats : List QuestionState) (place : ℕ) (seat new : QuestionState)
    → slice_get seats place ≡ Some seat
    → new.question ≡ seat.question
    → map (λ (s : QuestionState). s.question) (set seats place new) ≡ map
    (λ (s : QuestionState). s.question) seats
asked-set [] place seat new found same = refl
asked-set (first ∷ seats) zero seat new found same =
    ap (λ q. q ∷ map (λ (s : QuestionState). s.question) seats)
    (same ∙ ap (λ (s : QuestionState). s.question) (sym (same_Some first seat found)))
asked-set (first ∷ seats) (suc place) seat new found same =
    ap (λ qs. first.question ∷ qs) (asked-set seats place seat new found same)

-- so they do where each seat becomes one with its question
asked-map : (change : QuestionState → QuestionState) (seats : List QuestionState)
    → ((seat : QuestionState) → (change seat).question ≡ seat.question)
    → map (λ (s : QuestionState). s.question) (map change seats) ≡ map
    (λ (s : QuestionState). s.question) seats
asked-map change [] same = refl
asked-map change (seat ∷ seats) same =
    ap (λ q. q ∷ map (λ (s : QuestionState). s.question) (map change seats)) (same seat)
    ∙ ap (λ qs. seat.question ∷ qs) (asked-map change seats same)

asked-new : (questions : List Question)
    → map (λ (s : QuestionState). s.question) (map new_seat questions) ≡ questions
asked-new [] = refl
asked-new (question ∷ questions) = ap (λ qs. question ∷ qs) (asked-new questions)

-- as many seats as before
length-map_seats : (change : QuestionState → QuestionState) (seats : List QuestionState)
    → length (map change seats) ≡ length seats
length-map_seats change [] = refl
length-map_seats change (seat ∷ seats) = ap suc (length-map_seats change seats)

-- where no seat lends anything, no seat at a place does
none_lent : (change : QuestionState → QuestionState) (seats : List QuestionState)
    → ((seat : QuestionState) (number : ℕ) → lent_zones number [] (change seat).tree ≡ [])
    → (number place : ℕ) (seat : QuestionState) → slice_get (map change seats) place ≡ Some seat
    → lent_zones number [] seat.tree ≡ []
none_lent change [] none number place seat is = absurd (none-some seat is)
none_lent change (first ∷ seats) none number zero seat is =
    ap (λ (s : QuestionState). lent_zones number [] s.tree) (sym (same_Some (change first) seat is))
    ∙ none first number
none_lent change (first ∷ seats) none number (suc place) seat is =
    none_lent change seats none number place seat is

-- ---- the beginning

none_lent_new : (questions : List Question) (number place : ℕ) (seat : QuestionState)
    → slice_get (map new_seat questions) place ≡ Some seat
    → lent_zones number [] seat.tree ≡ []
none_lent_new [] number place seat is = absurd (none-some seat is)
none_lent_new (question ∷ questions) number zero seat is =
    ap (λ (s : QuestionState). lent_zones number [] s.tree)
    (sym (same_Some (new_seat question) seat is))
none_lent_new (question ∷ questions) number (suc place) seat is =
    none_lent_new questions number place seat is

-- a pool at its beginning
pub begun_sound : (sheet : Sheet) (questions : List Question) → IsWithinLimits sheet
    → All (IsQuestionOf sheet) questions → length questions ≤ most_questions
    → IsSoundPool (pool_begun sheet questions)
begun_sound sheet questions limits of_sheet few = record {
  limits = limits;
  season = refl;
  events = All-nil _;
  most_events = omega arith;
  asked = asked-new questions;
  questions = of_sheet;
  most_questions = few;
  seats = All-map (IsGoodSeat sheet (pool_begun sheet questions).season) new_seat questions
      (λ k d h. new_seat_good sheet (pool_begun sheet questions).season _);
  loans = All-nil _;
  due = λ number place seat is. none_lent_new questions number place seat is;
}

-- ---- take

pub taken_sound : (old : PoolView) (ticket : Ticket) (new : PoolView) → IsSoundPool old
    → TakesLeaf old ticket new → IsSoundPool new
taken_sound old ticket new sound takes = subst IsSoundPool (sym takes.after) after
  where
    lent : QuestionState
    lent = seat_lent takes.tree takes.seat

    free : loan_at old.loans ticket.number ≡ None
    free = ap (loan_at old.loans) takes.number ∙ loan_at-free old.loans

    few : ticket.number ≤ length old.loans
    few = rw takes.number (free_number-le old.loans)

    after : IsSoundPool (pool_lent old ticket takes.seat takes.tree)
    after = record {
      limits = sound.limits;
      season = sound.season;
      events = sound.events;
      most_events = sound.most_events;
      asked = asked-set old.seats ticket.place takes.seat lent takes.found refl ∙ sound.asked;
      questions = sound.questions;
      most_questions = sound.most_questions;
      seats = All-set (IsGoodSeat old.sheet old.season) old.seats ticket.place lent
          (seat_lent_good old.sheet old.season takes.seat takes.tree ticket.number
          ticket.piece.zone.literals
          (All-at (IsGoodSeat old.sheet old.season) old.seats ticket.place takes.seat sound.seats
          takes.found) takes.workable takes.leaf takes.zone) sound.seats;
      loans = rw (length-set old.seats ticket.place lent)
          (All-with_loan (λ loan. IfSome loan (IsGoodLoan (present_epoch old) (length old.seats)))
          old.loans ticket.number (loan_of ticket)
          (record {
            has_been = omega (arith, takes.epoch);
            in_range = slice_get_within old.seats ticket.place takes.seat takes.found;
          }) sound.loans);
      due = Agree-lent (present_epoch old) old.seats old.loans ticket.number takes.seat lent
          (loan_of ticket) sound.due few free takes.found takes.epoch takes.leaf takes.zone;
    }

-- ---- give

pub kept_sound : (old : PoolView) (ticket : Ticket) (done : Done) (new : PoolView)
    → IsSoundPool old
    → MayBeGiven old ticket done → Keeps old ticket done new → IsSoundPool new
kept_sound old ticket done new sound may keeps = subst IsSoundPool (sym keeps.after) after
  where
    finding : Option Finding
    finding = finding_of done

    settled : QuestionState
    settled = seat_after ticket.number finding keeps.seat

    present : IsPresent old ticket
    present = keeps.own.present keeps.epoch

    same_seat : present.seat ≡ keeps.seat
    same_seat = same_Some present.seat keeps.seat (sym present.found ∙ keeps.found)

    after : IsSoundPool (record old {
      seats = set old.seats ticket.place settled;
      loans = set old.loans ticket.number None;
    })
    after = record {
      limits = sound.limits;
      season = sound.season;
      events = sound.events;
      most_events = sound.most_events;
      asked = asked-set old.seats ticket.place keeps.seat settled keeps.found refl ∙ sound.asked;
      questions = sound.questions;
      most_questions = sound.most_questions;
      seats = All-set (IsGoodSeat old.sheet old.season) old.seats ticket.place settled
          (seat_after_good old.sheet old.season keeps.seat ticket.number ticket.piece finding
          (All-at (IsGoodSeat old.sheet old.season) old.seats ticket.place keeps.seat sound.seats
          keeps.found) (finding_is_true old.sheet ticket.piece done may.is_for may.sound)
          present.season
          (present.question ∙ ap (λ (s : QuestionState). s.question) same_seat)
          (ap (λ (s : QuestionState). lent_zones ticket.number [] s.tree) (sym same_seat)
          ∙ present.zone))
          sound.seats;
      loans = rw (length-set old.seats ticket.place settled)
          (All-set (λ loan. IfSome loan (IsGoodLoan (present_epoch old) (length old.seats)))
          old.loans ticket.number None tt sound.loans);
      due = Agree-given (present_epoch old) old.seats old.loans ticket.number keeps.seat settled
          (loan_of ticket) (leaf_after finding) sound.due keeps.own.out keeps.found refl
          (λ n. leaf_lends_nothing n finding);
    }

pub home_sound : (old : PoolView) (ticket : Ticket) (new : PoolView) → IsSoundPool old
    → ComesHome old ticket new → IsSoundPool new
home_sound old ticket new sound home = subst IsSoundPool (sym home.after) (record {
  limits = sound.limits;
  season = sound.season;
  events = sound.events;
  most_events = sound.most_events;
  asked = sound.asked;
  questions = sound.questions;
  most_questions = sound.most_questions;
  seats = sound.seats;
  loans = All-set (λ loan. IfSome loan (IsGoodLoan (present_epoch old) (length old.seats)))
      old.loans ticket.number None tt sound.loans;
  due = Agree-home (present_epoch old) old.seats old.loans ticket.number (loan_of ticket) sound.due
      home.own.out home.epoch;
})

pub given_sound : (old : PoolView) (ticket : Ticket) (done : Done) (gave : Gave) (new : PoolView)
    → IsSoundPool old → MayBeGiven old ticket done → Gives old ticket done gave new
    → IsSoundPool new
given_sound old ticket done Kept new sound may gives = kept_sound old ticket done new sound may
    gives
given_sound old ticket done (Stale told) new sound may gives = elim gives.cause as
    (λ _. IsSoundPool new) [
      | inl home ↦ home_sound old ticket new sound home
      | inr strange ↦ subst IsSoundPool (sym strange.after) sound
    ]

-- ---- change

pub changed_sound : (old : PoolView) (event : Event) → IsSoundPool old
    → length old.log < most_events
    → IsEventOf old.season event → IsSoundPool (pool_changed event old)
changed_sound old event sound room may_be = record {
  limits = sound.limits;
  season = ap (λ s. event_applied s event) sound.season
      ∙ sym (fold_push event_applied (unplayed_season (length old.sheet.clubs)
      (length old.sheet.fixtures)) old.log event);
  events = AreEventsOf-push old.sheet old.log event sound.events
      (subst (λ s. IsEventOf s event) sound.season may_be);
  most_events = omega (arith, length-append old.log (event ∷ []));
  asked = asked-map change old.seats (λ seat. refl) ∙ sound.asked;
  questions = sound.questions;
  most_questions = sound.most_questions;
  seats = All-map (IsGoodSeat old.sheet season) change old.seats
      (All-weaker (IsGoodSeat old.sheet old.season) (λ seat. IsGoodSeat old.sheet season (change
      seat))
      (λ seat good. seat_changed_good old.sheet old.season season seat good) old.seats sound.seats);
  loans = rw (length-map_seats change old.seats)
      (All-weaker (λ loan. IfSome loan (IsGoodLoan (present_epoch old) (length old.seats)))
      (λ loan. IfSome loan (IsGoodLoan (length (old.log ++ event ∷ [])) (length old.seats)))
      later old.loans sound.loans);
  due = Agree-left (present_epoch old) (length (old.log ++ event ∷ [])) (length old.seats)
      (map change old.seats) old.loans sound.loans
      (omega (arith, length-append old.log (event ∷ [])))
      (none_lent change old.seats (λ seat number.
      lent_zones_absent number (retargeted old.sheet season seat.question seat.tree) []
      (times_lent-retargeted old.sheet season seat.question seat.tree number)));
}
  where
    season : Results
    season = event_applied old.season event

    change : QuestionState → QuestionState
    change seat = seat_changed old.sheet season seat

    later : (loan : Option Loan)
        → IfSome loan (IsGoodLoan (present_epoch old) (length old.seats))
        → IfSome loan (IsGoodLoan (length (old.log ++ event ∷ [])) (length old.seats))
    later None good = tt
    later (Some loan) good = record {
      has_been = omega (arith, good.has_been, length-append old.log (event ∷ []));
      in_range = good.in_range;
    }

-- ---- start, shut, recall

pub opened_sound : (old : PoolView) → IsSoundPool old → IsSoundPool (pool_opened old)
opened_sound old sound = record {
  limits = sound.limits;
  season = sound.season;
  events = sound.events;
  most_events = sound.most_events;
  asked = sound.asked;
  questions = sound.questions;
  most_questions = sound.most_questions;
  seats = sound.seats;
  loans = sound.loans;
  due = sound.due;
}

pub shut_sound : (old : PoolView) → IsSoundPool old → IsSoundPool (pool_shut old)
shut_sound old sound = record {
  limits = sound.limits;
  season = sound.season;
  events = sound.events;
  most_events = sound.most_events;
  asked = sound.asked;
  questions = sound.questions;
  most_questions = sound.most_questions;
  seats = sound.seats;
  loans = sound.loans;
  due = sound.due;
}

pub recalled_sound : (old : PoolView) → IsSoundPool old → IsSoundPool (pool_recalled old)
recalled_sound old sound = record {
  limits = sound.limits;
  season = sound.season;
  events = sound.events;
  most_events = sound.most_events;
  asked = asked-map seat_recalled old.seats (λ seat. refl) ∙ sound.asked;
  questions = sound.questions;
  most_questions = sound.most_questions;
  seats = All-map (IsGoodSeat old.sheet old.season) seat_recalled old.seats
      (All-weaker (IsGoodSeat old.sheet old.season)
      (λ seat. IsGoodSeat old.sheet old.season (seat_recalled seat))
      (λ seat good. seat_recalled_good old.sheet old.season seat good) old.seats sound.seats);
  loans = All-nil _;
  due = none_lent seat_recalled old.seats (λ seat number. lent_zones-all_opened number seat.tree
      []);
}
