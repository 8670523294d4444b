-- What a turn of a cup's session leaves: an ask is answered and the session goes on, or it ends
-- with a status.
use Rattle.std.specs.Prelude.{◌≡◌, ◌<◌, ◌≤◌, ℕ, Bool, List, Option, None, Some, Result, Ok, Err}
use Rattle.std.specs.Io.KnownBytes.{append_known}
use Rattle.league_core.specs.declared.season.Event.{Event}
use Rattle.port_core.specs.Contents.{Position, input_limit}
use Rattle.port_core.specs.Readers.{LineReaderView}
use Rattle.answer_rows.specs.declared.output.OutputStop.{OutputStop}
use Rattle.answer_rows.specs.declared.output.OutputStop.TheVariants as output
use Rattle.cup_sheet.specs.declared.cup.Cup.{Cup}
use Rattle.cup_sheet.specs.CupFeeds.{joint_sheet}
use Rattle.run_ends.specs.declared.status.Status.{Status}
use Rattle.run_ends.specs.declared.status.Status.TheVariants.{WriteFault, OutOfMemory}
use Rattle.run_ends.specs.LastReads.{StopsSession}
use Rattle.run_ends.specs.Runs.{Counts, Serves}
use Rattle.run_ends.specs.inside.RunTurns.{AskEnds, MayEndSession}
use Rattle.run_ends.specs.inside.Stops.{CountsEnd}
use Rattle.run_ends.specs.inside.Ways.{HasCome, Path}
use Rattle.cup_turns.specs.declared.round.CupSoFar.{CupSoFar}
use Rattle.cup_turns.specs.CupCourses.{CupPlayed, cup_course_from, cup_kind}
use Rattle.cup_turns.specs.CupLastReads.{LeadCup, LeadToCupFeed}
use Rattle.cup_turns.specs.inside.CupRounds.{IsAfterEvents}

-- ---- the way

-- the way led from a cup's sheet over the events read so far
abbrev pub PathToCup : (CupPlayed → List ℕ → Type 0) → Cup → CupSoFar → Option (List ℕ) → Bool
    → Option (List ℕ) → Bool → Position → Option (List ℕ) → Option (List ℕ) → Type 0
PathToCup IsAnswer cup so_far input ended stream ended' position old now =
    (log : List Event) × IsAfterEvents (joint_sheet cup) log so_far
    × Path (cup_kind IsAnswer) input ended stream ended' position (cup_course_from cup log) old now

-- a session has come to where the lines lead on from a cup's sheet over the events read so far
abbrev pub HasComeToCup : {S : Type 0} → (S → Option (List ℕ)) → (S → List ℕ → S → Type 0) → Cup
    → CupSoFar → S → LineReaderView → S → Type 0
HasComeToCup left reads cup so_far first reader now =
    (log : List Event) × IsAfterEvents (joint_sheet cup) log so_far
    × HasCome left reads LeadCup first reader now (λ taken. LeadToCupFeed taken cup log)

-- rounds lead on from wherever a session had come to
abbrev pub CupComesOn : {S : Type 0} → (S → Option (List ℕ)) → (S → List ℕ → S → Type 0) → Cup
    → CupSoFar → CupSoFar → LineReaderView → LineReaderView → S → S → Type 0
CupComesOn {S = S} left reads cup so_far next old new before after =
    (first : S) → HasComeToCup left reads cup so_far first old before
    → HasComeToCup left reads cup next first new after

-- ---- an ask

-- an answer was written, or the run ends
abbrev pub CupAskGives : (List ℕ → Type 0) → Option (List ℕ) → Option (List ℕ) → Option Status
    → Type 0
CupAskGives IsAnswer old now None =
    (answer : List ℕ) × IsAnswer answer × (now ≡ append_known old answer)
CupAskGives IsAnswer old now (Some status) = AskEnds IsAnswer old now status

-- what comes of the call that writes it
abbrev pub cup_turn_of : {A : Type 0} → Result A OutputStop → Option Status
cup_turn_of (Ok done) = None
cup_turn_of (Err output.WriteFault) = Some WriteFault
cup_turn_of (Err output.OutOfMemory) = Some OutOfMemory

-- what that leaves of the sink's count of faults
abbrev pub CountsCupAsk : ℕ → ℕ → Option Status → Type 0
CountsCupAsk writes writes' None = writes' ≡ writes
CountsCupAsk writes writes' (Some status) = CountsEnd writes writes' status

-- ---- a turn

-- the way goes on, or the run has served
abbrev pub CupTurnGives : (CupPlayed → List ℕ → Type 0) → Cup → CupSoFar → Option (List ℕ) → Bool
    → Option (List ℕ) → Bool → Position → Option (List ℕ) → Option (List ℕ) → Option (List ℕ)
    → Option Status → Type 0
CupTurnGives IsAnswer cup so_far input ended stream ended' position left old now None =
    PathToCup IsAnswer cup so_far input ended stream ended' position old now
CupTurnGives IsAnswer cup so_far input ended stream ended' position left old now (Some status) =
    Serves (cup_kind IsAnswer) input left ended' old now status

-- the session has come on, or it stops
abbrev pub CupTurnStops : {S : Type 0} → (S → Option (List ℕ)) → (S → List ℕ → S → Type 0) → Cup
    → CupSoFar → S → LineReaderView → S → Option Status → Type 0
CupTurnStops left reads cup so_far first reader now None =
    HasComeToCup left reads cup so_far first reader now
CupTurnStops left reads cup so_far first reader now (Some status) =
    StopsSession left reads LeadCup first now status

-- a session that goes on has passed more of its input, but not more than an input may have
abbrev pub CupTurnMoves : ℕ → ℕ → Option Status → Type 0
CupTurnMoves old new None = (old < new) × (new ≤ input_limit)
CupTurnMoves old new (Some status) = Unit {0}

-- what a turn leaves of the counts of faults, and how it may end a session
abbrev pub CupTurnCounts : ℕ → ℕ → ℕ → ℕ → Option Status → Type 0
CupTurnCounts reads reads' writes writes' None = (reads' ≡ reads) × (writes' ≡ writes)
CupTurnCounts reads reads' writes writes' (Some status) =
    Counts reads reads' writes writes' status × MayEndSession status
