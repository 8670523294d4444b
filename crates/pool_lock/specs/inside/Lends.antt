-- What is lent through the lock, and what becomes of what comes back: both by the events that the
-- worker has seen by then.
use Rattle.std.specs.Prelude.{◌≡◌, IsTrue, List, length}
use Rattle.league_core.specs.declared.sheet.Sheet.{Sheet}
use Rattle.league_core.specs.declared.season.Event.{Event}
use Rattle.league_core.specs.declared.question.Question.{Question}
use Rattle.league_core.specs.game.Seasons.{IsSeasonOf, season_after}
use Rattle.league_core.specs.game.Questions.{IsQuestionOf}
use Rattle.league_core.specs.search.Zones.{IsZoneFor}
use Rattle.league_core.specs.search.Options.{has_finish}
use Rattle.atomic_table.specs.Seated.{TableId}
use Rattle.epoch_cancel.specs.inside.Seats.{EyeView}
use Rattle.branch_pool.specs.declared.ticket.Ticket.{Ticket}
use Rattle.branch_pool.specs.declared.ticket.Took.{Took}
use Rattle.branch_pool.specs.declared.ticket.Took.TheVariants as took
use Rattle.branch_pool.specs.declared.ticket.Gave.{Gave}
use Rattle.branch_pool.specs.declared.ticket.Gave.TheVariants.{Kept, Stale}
use Rattle.branch_pool.specs.inside.States.{PoolView}
use Rattle.branch_pool.specs.inside.Goodness.{IsSoundPool}
use Rattle.branch_pool.specs.inside.Calls.{LendsNext}
use Rattle.pool_lock.specs.declared.lent_out.LentOut.{LentOut}
use Rattle.pool_lock.specs.declared.lent_out.LentOut.TheVariants.{Work, Over}

-- the ticket is of the epoch of these events, and its piece is one of the season after them: a
-- question and a zone of the sheet, in which the season can still end
pub record IsWorkAfter (sheet : Sheet) (events : List Event) (ticket : Ticket) : Type 0 where
  pub epoch : ticket.epoch ≡ length events
  pub season : ticket.piece.season ≡ season_after sheet events
  pub of_sheet : IsSeasonOf sheet ticket.piece.season
  pub question : IsQuestionOf sheet ticket.piece.question
  pub zone : IsZoneFor sheet ticket.piece.question ticket.piece.zone.literals
  pub has_finish : IsTrue (has_finish sheet ticket.piece.season ticket.piece.zone.literals)

-- what was taken, if it is a ticket, is work after these events
abbrev pub TakesWorkAfter : Sheet → List Event → Took → Type 0
TakesWorkAfter sheet events (took.Lent ticket) = IsWorkAfter sheet events ticket
TakesWorkAfter sheet events took.Rest = Unit {0}
TakesWorkAfter sheet events took.Over = Unit {0}
TakesWorkAfter sheet events took.OutOfMemory = Unit {0}

-- what was lent, if it is a ticket, is work after these events
abbrev pub LendsWorkAfter : Sheet → List Event → LentOut → Type 0
LendsWorkAfter sheet events (Work ticket) = IsWorkAfter sheet events ticket
LendsWorkAfter sheet events Over = Unit {0}

-- the ticket is what `take` lends from some pool of this sheet and these questions, of which these
-- events are the log: under its least free number, for the leaf that comes next there
pub record IsTakenFrom (sheet : Sheet) (questions : List Question) (events : List Event)
    (ticket : Ticket) : Type 0 where
  pub pool : PoolView
  pub after : PoolView
  pub sound : IsSoundPool pool
  pub of_sheet : pool.sheet ≡ sheet
  pub asks : pool.questions ≡ questions
  pub log : pool.log ≡ events
  pub lends : LendsNext pool ticket after

-- what was taken, if it is a ticket, is taken from such a pool
abbrev pub TakesFrom : Sheet → List Question → List Event → Took → Type 0
TakesFrom sheet questions events (took.Lent ticket) = IsTakenFrom sheet questions events ticket
TakesFrom sheet questions events took.Rest = Unit {0}
TakesFrom sheet questions events took.Over = Unit {0}
TakesFrom sheet questions events took.OutOfMemory = Unit {0}

-- what was lent, if it is a ticket, is taken from such a pool
abbrev pub LendsFrom : Sheet → List Question → List Event → LentOut → Type 0
LendsFrom sheet questions events (Work ticket) = IsTakenFrom sheet questions events ticket
LendsFrom sheet questions events Over = Unit {0}

-- what was given back is kept only if its ticket is of the epoch of these events; what is stale
-- comes with their epoch
abbrev pub IsEpochSaidAfter : List Event → Ticket → Gave → Type 0
IsEpochSaidAfter events ticket Kept = ticket.epoch ≡ length events
IsEpochSaidAfter events ticket (Stale epoch) = epoch ≡ length events

-- an eye of this word that has seen these events
abbrev pub IsEyeAfter : TableId → List Event → EyeView → Type 0
IsEyeAfter word events eye = (eye.table ≡ word) × (eye.list ≡ events)
