-- Where the reading of a session stands from turn to turn, and where it stops.
use Rattle.std.specs.Prelude.{ℕ, Bool, List, Option, Result, Ok, Err}
use Rattle.league_core.specs.declared.sheet.Sheet.{Sheet}
use Rattle.league_core.specs.declared.season.Event.{Event}
use Rattle.port_core.specs.Readers.{LineReaderView}
use Rattle.branch_pool.specs.inside.States.{PoolView}
use Rattle.pool_save.specs.SavedReadings.{nothing_saved}
use Rattle.command_words.specs.declared.command.Mode.{Mode}
use Rattle.command_words.specs.declared.command.Mode.TheVariants.{Resume}
use Rattle.run_ends.specs.declared.status.Status.{Status}
use Rattle.session_turns.specs.declared.turn.Step.{Step}
use Rattle.session_turns.specs.declared.turn.Step.TheVariants.{GoesOn, Ends}
use Rattle.session_turns.specs.Courses.{Origin, first_origin}
use Rattle.session_turns.specs.inside.Progress.{IsOriginOf}
use Rattle.run_ends.specs.LastReads.{StopsSession}
use Rattle.run_ends.specs.inside.Ways.{HasCome}
use Rattle.session_turns.specs.LastReads.{LeadSession, LeadToFeed, LeadToSavedBy}
use Rattle.run_ends.specs.declared.refuse.InputStop.{InputStop}
use Rattle.run_ends.specs.inside.Stops.{StopEnds}

-- they lead on from an origin, after these events
abbrev pub HasComeTo : {S : Type 0} → (S → Option (List ℕ)) → (S → List ℕ → S → Type 0) → Mode
    → S → LineReaderView → S → Origin → List Event → Type 0
HasComeTo left reads mode first reader now origin events =
    HasCome left reads (LeadSession mode) first reader now (λ taken. LeadToFeed mode taken origin
    events)

-- they lead into a saved text after these events, of which nothing is read
abbrev pub HasComeToSaved : {S : Type 0} → (S → Option (List ℕ)) → (S → List ℕ → S → Type 0)
    → Mode → S → LineReaderView → S → Sheet → List Event → Type 0
HasComeToSaved left reads mode first reader now sheet events =
    HasCome left reads (LeadSession mode) first reader now
    (λ taken. LeadToSavedBy mode taken sheet events nothing_saved)

-- the same with this pool: from an origin of it, over what was reported
abbrev pub HasComeToPool : {S : Type 0} → (S → Option (List ℕ)) → (S → List ℕ → S → Type 0)
    → Mode → S → LineReaderView → S → PoolView → Type 0
HasComeToPool left reads mode first reader now pool =
    (origin : Origin) × IsOriginOf mode origin pool
    × HasComeTo left reads mode first reader now origin pool.log

-- a turn: the session has come on, or it stops
abbrev pub TurnStops : {S : Type 0} → (S → Option (List ℕ)) → (S → List ℕ → S → Type 0)
    → Mode → S → LineReaderView → S → Step → Type 0
TurnStops left reads mode first reader now (GoesOn next) =
    HasComeToPool left reads mode first reader now next
TurnStops left reads mode first reader now (Ends status) =
    StopsSession left reads (LeadSession mode) first now status

-- the same from wherever the session had come to
abbrev pub RoundStops : {S : Type 0} → (S → Option (List ℕ)) → (S → List ℕ → S → Type 0)
    → Mode → PoolView → LineReaderView → LineReaderView → S → S → Step → Type 0
RoundStops {S = S} left reads mode pool old new before after turn =
    (first : S) → HasComeToPool left reads mode first old before pool
    → TurnStops left reads mode first new after turn

-- and up to the end of the session
abbrev pub RoundsStop : {S : Type 0} → (S → Option (List ℕ)) → (S → List ℕ → S → Type 0)
    → Mode → PoolView → LineReaderView → S → S → Status → Type 0
RoundsStop {S = S} left reads mode pool old before after status =
    (first : S) → HasComeToPool left reads mode first old before pool
    → StopsSession left reads (LeadSession mode) first after status

-- rounds lead on from wherever the session had come to, from pool to pool
abbrev pub ComesOn : {S : Type 0} → (S → Option (List ℕ)) → (S → List ℕ → S → Type 0)
    → Mode → PoolView → PoolView → LineReaderView → LineReaderView → S → S → Type 0
ComesOn {S = S} left reads mode pool pool' old new before after =
    (first : S) → HasComeToPool left reads mode first old before pool
    → HasComeToPool left reads mode first new after pool'

-- ---- the opening of a session that goes on from a saved text

-- whatever ends the session at this stop, it stops there
abbrev pub StopsBy : {S : Type 0} → (S → Option (List ℕ)) → (S → List ℕ → S → Type 0) → Mode
    → S → S → InputStop → Type 0
StopsBy left reads mode first now stop =
    (old new : Option (List ℕ)) (status : Status) → StopEnds stop old new status
    → StopsSession left reads (LeadSession mode) first now status

-- the feed before the saved text was read from wherever the session had come to, and it has come to
-- the saved text; or it stops
abbrev pub FeedOpens : {S : Type 0} → (S → Option (List ℕ)) → (S → List ℕ → S → Type 0) → Mode
    → S → LineReaderView → S → Result PoolView InputStop → Type 0
FeedOpens left reads mode first new after (Ok next) =
    HasComeToSaved left reads mode first new after next.sheet next.log
FeedOpens left reads mode first new after (Err stop) = StopsBy left reads mode first after stop

-- the saved text was read too, and the session goes on after it; or it stops
abbrev pub SavedOpens : {S : Type 0} → (S → Option (List ℕ)) → (S → List ℕ → S → Type 0) → Mode
    → S → LineReaderView → S → Result PoolView InputStop → Type 0
SavedOpens left reads mode first new after (Ok next) =
    HasComeToPool left reads mode first new after next
SavedOpens left reads mode first new after (Err stop) = StopsBy left reads mode first after stop

-- rounds of the feed before the saved text lead on from wherever the session had come to, from pool
-- to pool
abbrev pub OpensOn : {S : Type 0} → (S → Option (List ℕ)) → (S → List ℕ → S → Type 0)
    → PoolView → PoolView → LineReaderView → LineReaderView → S → S → Type 0
OpensOn {S = S} left reads pool pool' old new before after =
    (proofs : Bool) (first : S)
    → HasComeTo left reads (Resume proofs) first old before (first_origin pool.sheet) pool.log
    → HasComeTo left reads (Resume proofs) first new after (first_origin pool'.sheet) pool'.log
