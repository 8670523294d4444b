-- Tickets of a pool: what is taken comes with one, and it stays one over the steps that leave its
-- number out.
use Rattle.std.proofs.Common.{◌≡◌, ◌≢◌, ◌<◌, ◌≤◌, inl, inr, List, [], ◌∷◌, ◌++◌, length, Option}
use Rattle.std.proofs.Common.{Some, None, sym, ap, ◌∙◌, subst, arith, get_or, get_or-set_other}
use Rattle.std.specs.List.{slice_get}
use Rattle.std.proofs.lemmas.Option.{same_Some, none-some, slice_get-get_or}
use Rattle.std.proofs.lemmas.List.{length-append}
use Rattle.league_core.specs.declared.season.Event.{Event}
use Rattle.league_core.specs.declared.question.Question.{Question}
use Rattle.reason_core.specs.declared.done.Done.{Done}
use Rattle.league_core.specs.search.Trees.{open_leaf}
use Rattle.branch_pool.specs.declared.question_state.QuestionState.{QuestionState}
use Rattle.branch_pool.specs.declared.question_state.Loan.{Loan}
use Rattle.branch_pool.specs.declared.ticket.Ticket.{Ticket}
use Rattle.branch_pool.specs.declared.ticket.Gave.{Gave}
use Rattle.branch_pool.specs.declared.ticket.Gave.TheVariants.{Kept, Stale}
use Rattle.branch_pool.specs.inside.States.{PoolView, loan_at, present_epoch}
use Rattle.branch_pool.specs.inside.Steps.{TakesLeaf, loan_of, seat_lent, IsPresent, IsOwnTicket}
use Rattle.branch_pool.specs.inside.Steps.{MayBeGiven, Gives}
use Rattle.branch_pool.specs.inside.Goodness.{IsSoundPool}
use Rattle.branch_pool.specs.inside.Runs.{Step, take_step, give_step, change_step, start_step}
use Rattle.branch_pool.specs.inside.Runs.{shut_step, recall_step, adopt_step, adopt_all_step}
use Rattle.branch_pool.specs.inside.Runs.{MakesStep, LeavesOut}
use Rattle.branch_pool.proofs.SlotLemmas.{loan_at-free, free_number-le, loan_at-with_same}
use Rattle.branch_pool.proofs.SlotLemmas.{loan_at-with_other}
use Rattle.branch_pool.proofs.GoodLemmas.{asked_there}
use Rattle.branch_pool.proofs.CallLemmas.{out_is_good, present_is}
use Rattle.branch_pool.proofs.StepLemmas.{given_sound, taken_sound}
use Rattle.branch_pool.proofs.RunLemmas.{step_sound}
use Rattle.league_core.proofs.plain.Slots.{slice_get-set_same}

-- ---- take

-- what is taken comes with a ticket of the pool
pub taken_is_own : (old new : PoolView) (ticket : Ticket) → IsSoundPool old
    → TakesLeaf old ticket new → IsOwnTicket new ticket
taken_is_own old new ticket sound takes =
    subst (λ (pool : PoolView). IsOwnTicket pool ticket) (sym takes.after) (record {
      out = loan_at-with_same old.loans ticket.number (loan_of ticket) few;
      present = λ now. record {
        seat = seat_lent takes.tree takes.seat;
        found = slice_get-set_same old.seats ticket.place takes.seat
            (seat_lent takes.tree takes.seat) takes.found;
        season = takes.season;
        question = takes.question;
        zone = takes.zone;
      };
    })
  where
    few : ticket.number ≤ length old.loans
    few = rw takes.number (free_number-le old.loans)

-- ---- what stays out

-- a ticket stays the pool's where its number stays out, in the same season of the same questions
stays_own : (old new : PoolView) (ticket : Ticket) → IsSoundPool old → IsSoundPool new
    → new.log ≡ old.log → new.season ≡ old.season → new.questions ≡ old.questions
    → loan_at new.loans ticket.number ≡ loan_at old.loans ticket.number → IsOwnTicket old ticket
    → IsOwnTicket new ticket
stays_own old new ticket sound after log season questions loan own = record {
  out = out;
  present = λ now. present_is new ticket seat after out now found
      (same_Some seat.question (was now).seat.question
      (sym (asked_there new ticket.place seat after found)
      ∙ ap (λ (asked : List Question). slice_get asked ticket.place) questions
      ∙ asked_there old ticket.place (was now).seat sound (was now).found)
      ∙ sym (was now).question)
      (season ∙ sym (was now).season);
}
  where
    out : loan_at new.loans ticket.number ≡ Some (loan_of ticket)
    out = loan ∙ own.out

    within : ticket.place < length new.seats
    within = (out_is_good new ticket after out).1

    seat : QuestionState
    seat = get_or new.seats ticket.place (record {
      question = ticket.piece.question;
      tree = open_leaf;
      units = 0;
      lent = 0;
      example = None;
    })

    found : slice_get new.seats ticket.place ≡ Some seat
    found = slice_get-get_or new.seats ticket.place _ within

    was : ticket.epoch ≡ present_epoch new → IsPresent old ticket
    was now = own.present (now ∙ ap (λ (events : List Event). length events) log)

-- over a take: nothing was out under the number that is lent
stays_over_take : (old new : PoolView) (taken ticket : Ticket) → IsSoundPool old
    → TakesLeaf old taken new → IsOwnTicket old ticket → IsOwnTicket new ticket
stays_over_take old new taken ticket sound takes own =
    stays_own old new ticket sound (taken_sound old taken new sound takes)
    (ap (λ (pool : PoolView). pool.log) takes.after)
    (ap (λ (pool : PoolView). pool.season) takes.after)
    (ap (λ (pool : PoolView). pool.questions) takes.after)
    (ap (λ (pool : PoolView). loan_at pool.loans ticket.number) takes.after
    ∙ loan_at-with_other old.loans taken.number ticket.number (loan_of taken) other few) own
  where
    few : taken.number ≤ length old.loans
    few = rw takes.number (free_number-le old.loans)

    other : ticket.number ≢ taken.number
    other same = none-some (loan_of ticket)
        (sym (loan_at-free old.loans) ∙ ap (loan_at old.loans) (sym takes.number ∙ sym same)
        ∙ own.out)

-- over a give of another number
stays_over_give : (old new : PoolView) (given ticket : Ticket) (done : Done) (gave : Gave)
    → IsSoundPool old → MayBeGiven old given done → Gives old given done gave new
    → given.number ≢ ticket.number → IsOwnTicket old ticket → IsOwnTicket new ticket
stays_over_give old new given ticket done Kept sound may keeps other own =
    stays_own old new ticket sound (given_sound old given done Kept new sound may keeps)
    (ap (λ (pool : PoolView). pool.log) keeps.after)
    (ap (λ (pool : PoolView). pool.season) keeps.after)
    (ap (λ (pool : PoolView). pool.questions) keeps.after)
    (ap (λ (pool : PoolView). loan_at pool.loans ticket.number) keeps.after
    ∙ get_or-set_other old.loans given.number ticket.number None None (λ same. other (sym same)))
    own
stays_over_give old new given ticket done (Stale told) sound may gives other own =
    elim gives.cause as (λ _. IsOwnTicket new ticket) [
      | inl home ↦ stays_own old new ticket sound
          (given_sound old given done (Stale told) new sound may gives)
          (ap (λ (pool : PoolView). pool.log) home.after)
          (ap (λ (pool : PoolView). pool.season) home.after)
          (ap (λ (pool : PoolView). pool.questions) home.after)
          (ap (λ (pool : PoolView). loan_at pool.loans ticket.number) home.after
          ∙ get_or-set_other old.loans given.number ticket.number None None
          (λ same. other (sym same))) own
      | inr strange ↦ subst (λ (pool : PoolView). IsOwnTicket pool ticket) (sym strange.after) own
    ]

-- over a change: the ticket is of an earlier epoch then
stays_over_change : (old : PoolView) (event : Event) (new : PoolView) (ticket : Ticket)
    → IsSoundPool old → new.loans ≡ old.loans → new.log ≡ old.log ++ event ∷ []
    → IsOwnTicket old ticket → IsOwnTicket new ticket
stays_over_change old event new ticket sound loans log own = record {
  out = ap (λ (out : List (Option Loan)). loan_at out ticket.number) loans ∙ own.out;
  present = λ now. absurd (omega (
    arith,
    now,
    (out_is_good old ticket sound own.out).0,
    ap (λ (events : List Event). length events) log,
    length-append old.log (event ∷ []),
  ));
}

-- over each step that leaves its number out
pub stays_over_step : (old new : PoolView) (step : Step) (ticket : Ticket) → IsSoundPool old
    → MakesStep old step new → LeavesOut ticket.number step → IsOwnTicket old ticket
    → IsOwnTicket new ticket
stays_over_step old new (take_step taken) ticket sound leads left own =
    stays_over_take old new taken ticket sound leads own
stays_over_step old new (give_step given done gave) ticket sound leads left own =
    stays_over_give old new given ticket done gave sound leads.0 leads.1 left own
stays_over_step old new (change_step event) ticket sound leads left own =
    stays_over_change old event new ticket sound
    (ap (λ (pool : PoolView). pool.loans) leads.after)
    (ap (λ (pool : PoolView). pool.log) leads.after) own
stays_over_step old new start_step ticket sound leads left own =
    stays_own old new ticket sound (step_sound old start_step new sound leads)
    (ap (λ (pool : PoolView). pool.log) leads) (ap (λ (pool : PoolView). pool.season) leads)
    (ap (λ (pool : PoolView). pool.questions) leads)
    (ap (λ (pool : PoolView). loan_at pool.loans ticket.number) leads) own
stays_over_step old new shut_step ticket sound leads left own =
    stays_own old new ticket sound (step_sound old shut_step new sound leads)
    (ap (λ (pool : PoolView). pool.log) leads) (ap (λ (pool : PoolView). pool.season) leads)
    (ap (λ (pool : PoolView). pool.questions) leads)
    (ap (λ (pool : PoolView). loan_at pool.loans ticket.number) leads) own
stays_over_step old new recall_step ticket sound leads left own = absurd left
stays_over_step old new (adopt_step place tree) ticket sound leads left own =
    stays_own old new ticket sound (step_sound old (adopt_step place tree) new sound leads)
    (ap (λ (pool : PoolView). pool.log) leads.after)
    (ap (λ (pool : PoolView). pool.season) leads.after)
    (ap (λ (pool : PoolView). pool.questions) leads.after)
    (ap (λ (pool : PoolView). loan_at pool.loans ticket.number) leads.after) own
stays_over_step old new (adopt_all_step trees) ticket sound leads left own =
    stays_own old new ticket sound (step_sound old (adopt_all_step trees) new sound leads)
    (ap (λ (pool : PoolView). pool.log) leads.1)
    (ap (λ (pool : PoolView). pool.season) leads.1)
    (ap (λ (pool : PoolView). pool.questions) leads.1)
    (ap (λ (pool : PoolView). loan_at pool.loans ticket.number) leads.1) own
