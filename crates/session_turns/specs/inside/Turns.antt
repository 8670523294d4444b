-- What one turn of a run does: what an ask, a fault and the end leave of the sink's bytes, and how
-- the way goes on. A turn is the reading of the sheet, or a round of the feed and its ask.
use Rattle.std.specs.Prelude.{◌≡◌, ◌<◌, ◌≤◌, ◌⊎◌, ℕ, Bool, List, [], map, Option, Some, None}
use Rattle.std.specs.Prelude.{Result, Ok, Err}
use Rattle.std.specs.Io.KnownBytes.{append_known}
use Rattle.league_core.specs.declared.sheet.Sheet.{Sheet}
use Rattle.league_core.specs.declared.question.Question.{Question}
use Rattle.league_core.specs.game.Sheets.{IsWithinLimits}
use Rattle.league_core.specs.game.Seasons.{season_after}
use Rattle.port_core.specs.Ports.{Rose}
use Rattle.port_core.specs.Contents.{Position, input_limit}
use Rattle.league_core.specs.search.Trees.{Tree}
use Rattle.branch_pool.specs.inside.States.{PoolView, new_seat, out_count}
use Rattle.plain_rounds.specs.declared.round.RoundEnd.{RoundEnd}
use Rattle.plain_rounds.specs.declared.round.RoundEnd.TheVariants as round_end
use Rattle.answer_rows.specs.AskedQuestions.{questions_of}
use Rattle.verdict_run.specs.inside.Working.{AreSettled}
use Rattle.answer_rows.specs.declared.output.OutputStop.{OutputStop}
use Rattle.answer_rows.specs.declared.output.OutputStop.TheVariants as output
use Rattle.answer_rows.specs.inside.Outputs.{PutsSomePrefix, PutsSomeText}
use Rattle.run_ends.specs.declared.status.Status.{Status}
use Rattle.run_ends.specs.declared.status.Status.TheVariants.{BadWords}
use Rattle.run_ends.specs.declared.status.Status.TheVariants.{WriteFault, OutOfMemory}
use Rattle.pool_save.specs.SavedReadings.{nothing_saved}
use Rattle.command_words.specs.declared.command.Mode.{Mode}
use Rattle.command_words.specs.declared.command.Mode.TheVariants.{Verdicts, Save, Resume}
use Rattle.run_ends.specs.declared.run_end.RunEnd.TheVariants.{Complete}
use Rattle.session_turns.specs.declared.turn.Step.{Step}
use Rattle.session_turns.specs.declared.turn.Step.TheVariants.{GoesOn, Ends}
use Rattle.run_ends.specs.declared.refuse.InputStop.{InputStop}
use Rattle.run_ends.specs.declared.refuse.InputStop.TheVariants as stop
use Rattle.session_turns.specs.Plays.{Played, played_after}
use Rattle.session_turns.specs.Courses.{course_from_saved}
use Rattle.session_turns.specs.Answers.{IsAnswerTo}
use Rattle.run_ends.specs.Texts.{IsLastText}
use Rattle.session_turns.specs.Texts.{IsSavedText, session_kind}
use Rattle.run_ends.specs.inside.Ways.{Path}
use Rattle.run_ends.specs.inside.RunTurns.{AskEnds, EndGives, MayEndSession}
use Rattle.session_turns.specs.inside.Progress.{KeepsSaved, PathToPool}
use Rattle.run_ends.specs.inside.Stops.{CountsEnd, CountsStop, StopEnds, stop_of_feed}
use Rattle.run_ends.specs.Runs.{Counts, Serves}

-- ---- the pool of a session

-- the questions that a session has in its pool: only verdicts and saved trees are about some
abbrev pub asked_by : Mode → Sheet → List Question
asked_by (Verdicts proofs) sheet = questions_of sheet
asked_by Save sheet = questions_of sheet
asked_by (Resume proofs) sheet = questions_of sheet
asked_by mode sheet = []

-- no work was done on the questions
abbrev pub IsUnworked : PoolView → Type 0
IsUnworked pool = pool.seats ≡ map new_seat pool.questions

-- nor is it in `save` before its end
abbrev pub IsUnworkedIn : Mode → PoolView → Type 0
IsUnworkedIn Save pool = IsUnworked pool
IsUnworkedIn mode pool = Unit {0}

-- a pool that a session keeps from ask to ask: it has the questions of its mode, its season is that
-- of its events, and nothing is out
pub record IsLive (mode : Mode) (pool : PoolView) : Type 0 where
  pub limits : IsWithinLimits pool.sheet
  pub questions : pool.questions ≡ asked_by mode pool.sheet
  pub season : pool.season ≡ season_after pool.sheet pool.log
  pub home : out_count pool.loans ≡ 0
  pub unworked : IsUnworkedIn mode pool

-- what was reported to a pool, where this is asked about and these trees were saved
abbrev pub reported_to : PoolView → Option ℕ → Option (List (Option Tree)) → Played
reported_to pool about saved = played_after pool.sheet pool.log about saved

-- a pool of the same sheet, to which the same was reported
abbrev pub IsReportedSame : PoolView → PoolView → Type 0
IsReportedSame pool next = (next.sheet ≡ pool.sheet) × (next.log ≡ pool.log)

-- ---- an answer

-- the work is done that an answer needs: only verdicts need some
abbrev pub IsWorkedOut : Mode → PoolView → Type 0
IsWorkedOut (Verdicts proofs) pool = AreSettled pool
IsWorkedOut (Resume proofs) pool = AreSettled pool
IsWorkedOut mode pool = Unit {0}

-- an answer was written; or a prefix of one, or, if memory ran out, nothing
abbrev pub PutsAnswer : {A : Type 0} → Mode → PoolView → Option ℕ → Option (List (Option Tree))
    → Option (List ℕ) → Option (List ℕ) → Result A OutputStop → Type 0
PutsAnswer mode pool about saved old now result =
    PutsSomeText (IsAnswerTo mode (reported_to pool about saved)) old now result

-- an ask was answered, and nothing more reported to the pool, which keeps what is known of saved
-- trees; or a prefix of an answer was written, or, if memory ran out, nothing
abbrev pub AnswersAsk : Mode → PoolView → Option ℕ → Option (List (Option Tree))
    → Option (List ℕ) → Option (List ℕ) → Result PoolView OutputStop → Type 0
AnswersAsk mode pool about saved old now (Ok next) =
    IsReportedSame pool next × KeepsSaved saved next
    × ((answer : List ℕ) × IsAnswerTo mode (reported_to pool about saved) answer
    × (now ≡ append_known old answer))
AnswersAsk mode pool about saved old now (Err output.WriteFault) =
    PutsSomePrefix (IsAnswerTo mode (reported_to pool about saved)) old now
AnswersAsk mode pool about saved old now (Err output.OutOfMemory) =
    (now ≡ old) ⊎ PutsSomePrefix (IsAnswerTo mode (reported_to pool about saved)) old now

-- ---- what ends a run

-- a turn on an ask: its answer is written, or the run ends
abbrev pub AskGives : Mode → PoolView → Option ℕ → Option (List (Option Tree)) → Option (List ℕ)
    → Option (List ℕ) → Step → Type 0
AskGives mode pool about saved old now (GoesOn next) =
    IsReportedSame pool next × KeepsSaved saved next
    × ((answer : List ℕ) × IsAnswerTo mode (reported_to pool about saved) answer
    × (now ≡ append_known old answer))
AskGives mode pool about saved old now (Ends status) =
    AskEnds (IsAnswerTo mode (reported_to pool about saved)) old now status

-- the run ends, with such a status
abbrev pub EndsAs : (Status → Type 0) → Step → Type 0
EndsAs Is (GoesOn next) = ⊥
EndsAs Is (Ends status) = Is status

-- what was played where the input ends, if that has something answered
abbrev pub closing_of : Mode → PoolView → Option Played
closing_of Save pool = Some (reported_to pool None None)
closing_of mode pool = None

-- what is written last was written; or a prefix of it, or, if memory ran out, nothing
abbrev pub PutsClosing : {A : Type 0} → Option Played → Option (List ℕ) → Option (List ℕ)
    → Result A OutputStop → Type 0
PutsClosing closing old now result = PutsSomeText (IsLastText IsSavedText Complete closing) old now
    result

-- a turn after a round that is over: its ask is answered, or the run ends
abbrev pub CloseGives : Mode → PoolView → Option ℕ → RoundEnd → Option (List ℕ)
    → Option (List ℕ) → Step → Type 0
CloseGives mode pool about round_end.Ask old now turn =
    (saved : Option (List (Option Tree))) → KeepsSaved saved pool
    → AskGives mode pool about saved old now turn
CloseGives mode pool about round_end.End old now turn =
    EndsAs (EndGives (IsLastText IsSavedText Complete (closing_of mode pool)) old now) turn
CloseGives mode pool about (round_end.Stop stop) old now turn =
    EndsAs (StopEnds (stop_of_feed stop) old now) turn

-- ---- a turn

-- a turn: the way goes on, or the run has served; `ended` says whether the end of the source was
-- reached when the run began, and `ended'` whether it is now
abbrev pub TurnGives : Mode → Option (List ℕ) → Bool → Option (List ℕ) → Bool → Position
    → Option (List ℕ) → Option (List ℕ) → Option (List ℕ) → Step → Type 0
TurnGives mode input ended stream ended' position left old now (GoesOn next) =
    PathToPool mode input ended stream ended' position next old now
TurnGives mode input ended stream ended' position left old now (Ends status) =
    Serves (session_kind mode) input left ended' old now status

-- whatever ends the run at this stop, it has served
abbrev pub ServesBy : Mode → Option (List ℕ) → Option (List ℕ) → Bool → Option (List ℕ)
    → Option (List ℕ) → InputStop → Type 0
ServesBy mode input left ended' old now stop =
    (now' : Option (List ℕ)) (status : Status) → StopEnds stop now now' status
    → Serves (session_kind mode) input left ended' old now' status

-- the feed before a saved text was read: the way leads to the saved text; or the run ends
abbrev pub FeedGives : Mode → Option (List ℕ) → Bool → Option (List ℕ) → Bool → Position
    → Option (List ℕ) → Option (List ℕ) → Option (List ℕ) → Result PoolView InputStop → Type 0
FeedGives mode input ended stream ended' position left old now (Ok next) =
    Path (session_kind mode) input ended stream ended' position
    (course_from_saved mode next.sheet next.log nothing_saved) old now
FeedGives mode input ended stream ended' position left old now (Err stop) =
    ServesBy mode input left ended' old now stop

-- the saved text was read too: the way goes on after it; or the run ends
abbrev pub SavedGives : Mode → Option (List ℕ) → Bool → Option (List ℕ) → Bool → Position
    → Option (List ℕ) → Option (List ℕ) → Option (List ℕ) → Result PoolView InputStop → Type 0
SavedGives mode input ended stream ended' position left old now (Ok next) =
    PathToPool mode input ended stream ended' position next old now
SavedGives mode input ended stream ended' position left old now (Err stop) =
    ServesBy mode input left ended' old now stop

-- a session that goes on has its pool
abbrev pub TurnIsLive : Mode → Step → Type 0
TurnIsLive mode (GoesOn next) = IsLive mode next
TurnIsLive mode (Ends status) = Unit {0}

-- a session that goes on after a round has its pool, of the same sheet, and more of its input
-- passed, but not more than an input may have
abbrev pub TurnGoesOn : Mode → Sheet → ℕ → ℕ → Step → Type 0
TurnGoesOn mode sheet old new (GoesOn next) =
    IsLive mode next × (next.sheet ≡ sheet) × (old < new) × (new ≤ input_limit)
TurnGoesOn mode sheet old new (Ends status) = Unit {0}

-- what a turn leaves of the counts of faults, and how it may end a session
abbrev pub TurnCounts : ℕ → ℕ → ℕ → ℕ → Step → Type 0
TurnCounts reads reads' writes writes' (GoesOn next) = (reads' ≡ reads) × (writes' ≡ writes)
TurnCounts reads reads' writes writes' (Ends status) =
    Counts reads reads' writes writes' status × MayEndSession status

-- the same of a turn that only writes
abbrev pub CountsTurn : ℕ → ℕ → Step → Type 0
CountsTurn writes writes' (GoesOn next) = writes' ≡ writes
CountsTurn writes writes' (Ends status) = CountsEnd writes writes' status

-- the same of a turn after a round that is over
abbrev pub CountsClose : RoundEnd → ℕ → ℕ → Step → Type 0
CountsClose round_end.Ask writes writes' turn = CountsTurn writes writes' turn
CountsClose round_end.End writes writes' turn = EndsAs (CountsEnd writes writes') turn
CountsClose (round_end.Stop stop) writes writes' turn =
    EndsAs (CountsStop (stop_of_feed stop) writes writes') turn

-- the same if the words fit no mode
abbrev pub CountsWords : ℕ → ℕ → Status → Type 0
CountsWords writes writes' BadWords = writes' ≡ writes
CountsWords writes writes' OutOfMemory = writes' ≡ writes
CountsWords writes writes' WriteFault = Rose writes writes'
CountsWords writes writes' status = ⊥

-- a stop of the opening of a session is for a fault of the source only if its count rose, and else
-- the count stays
abbrev pub CountsOpeningStop : ℕ → ℕ → InputStop → Type 0
CountsOpeningStop reads reads' stop.ReadFault = Rose reads reads'
CountsOpeningStop reads reads' stop = reads' ≡ reads

-- the same of the opening
abbrev pub CountsOpening : {A : Type 0} → ℕ → ℕ → Result A InputStop → Type 0
CountsOpening reads reads' (Ok next) = reads' ≡ reads
CountsOpening reads reads' (Err stop) = CountsOpeningStop reads reads' stop
