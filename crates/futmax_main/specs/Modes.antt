-- What the top call promises, by the mode that its words give: that asks are answered or a saved
-- text is written, that a report is checked, or that a sample is made.
use Rattle.std.specs.Prelude.{◌≡◌, ℕ, Bool, ◌⊎◌, List, Option, Some, None}
use Rattle.command_words.specs.declared.command.Mode.{Mode}
use Rattle.command_words.specs.declared.command.Mode.TheVariants.{Check, Groups, GroupsCheck}
use Rattle.command_words.specs.declared.command.Mode.TheVariants.{Sample}
use Rattle.run_ends.specs.declared.status.Status.{Status}
use Rattle.run_ends.specs.declared.status.Status.TheVariants.{Done, BadWords, OutOfMemory}
use Rattle.run_ends.specs.Runs.{IsSettled, RefusesWords, Serves}
use Rattle.run_ends.specs.LastReads.{StopsSession}
use Rattle.session_turns.specs.LastReads.{LeadSession}
use Rattle.session_turns.specs.Texts.{session_kind}
use Rattle.cup_turns.specs.CupLastReads.{LeadCup}
use Rattle.futmax_main.specs.Checks.{ComesTo, Judge, ServesCheck, kind_of_check, report_judge}
use Rattle.futmax_main.specs.CupModes.{cup_judge, groups_kind}
use Rattle.futmax_main.specs.SampleRows.{ServesSample}

-- ---- what a run leaves

-- the sink's bytes before and after a run, by the mode of its words, if they fit one, by what the
-- source had left before and has left after, and by whether its end was reached
abbrev pub ServesAs : Option Mode → Option (List ℕ) → Option (List ℕ) → Bool → Option (List ℕ)
    → Option (List ℕ) → Status → Type 0
ServesAs None input left ended old new status = RefusesWords old new status
ServesAs (Some (Check wide)) input left ended old new status =
    ServesCheck (report_judge (kind_of_check wide)) input left old new status
ServesAs (Some (Groups proofs)) input left ended old new status =
    Serves (groups_kind proofs) input left ended old new status
ServesAs (Some GroupsCheck) input left ended old new status =
    ServesCheck cup_judge input left old new status
ServesAs (Some (Sample seed)) input left ended old new status = ServesSample seed old new status
ServesAs (Some mode) input left ended old new status =
    Serves (session_kind mode) input left ended old new status

-- reading stops at the read that completes the line at which a session ends, by the mode of the
-- words, if they fit one: of a session that answers asks or saves
abbrev pub StopsAs : {S : Type 0} → (S → Option (List ℕ)) → (S → List ℕ → S → Type 0)
    → Option Mode → S → S → Status → Type 0
StopsAs left reads None before after status = Unit {0}
StopsAs left reads (Some (Check wide)) before after status = Unit {0}
StopsAs left reads (Some GroupsCheck) before after status = Unit {0}
StopsAs left reads (Some (Sample seed)) before after status = Unit {0}
StopsAs left reads (Some (Groups proofs)) before after status =
    StopsSession left reads LeadCup before after status
StopsAs left reads (Some mode) before after status =
    StopsSession left reads (LeadSession mode) before after status

-- nothing is read: the words do not fit, or the mode reads no input
abbrev pub ReadsNothing : Option Mode → Type 0
ReadsNothing None = Unit {0}
ReadsNothing (Some (Sample seed)) = Unit {0}
ReadsNothing (Some mode) = ⊥

-- ---- the status alone

-- a check may end so: an input with a report comes to what has this status
abbrev pub IsChecked : {Outcome : Type 0} → Judge Outcome → List ℕ → Status → Type 0
IsChecked {Outcome} judge input status =
    (outcome : Outcome) × ComesTo judge input outcome × (judge.status outcome ≡ status)

-- the status of a check in which no device failed: that of the input, or of some input if the
-- source exposes none, or running out of memory
abbrev pub IsCheckSettled : {Outcome : Type 0} → Judge Outcome → Option (List ℕ) → Status → Type 0
IsCheckSettled judge None status =
    ((input : List ℕ) × IsChecked judge input status) ⊎ (status ≡ OutOfMemory)
IsCheckSettled judge (Some input) status = IsChecked judge input status ⊎ (status ≡ OutOfMemory)

-- the status of a run in which no device failed, by the mode of its words, if they fit one
abbrev pub IsSettledAs : Option Mode → Option (List ℕ) → Status → Type 0
IsSettledAs None input status = (status ≡ BadWords) ⊎ (status ≡ OutOfMemory)
IsSettledAs (Some (Check wide)) input status =
    IsCheckSettled (report_judge (kind_of_check wide)) input status
IsSettledAs (Some (Groups proofs)) input status = IsSettled (groups_kind proofs) input status
IsSettledAs (Some GroupsCheck) input status = IsCheckSettled cup_judge input status
IsSettledAs (Some (Sample seed)) input status = (status ≡ Done) ⊎ (status ≡ OutOfMemory)
IsSettledAs (Some mode) input status = IsSettled (session_kind mode) input status

-- the mode is one of those that judge a report
abbrev pub IsCheckMode : Mode → Type 0
IsCheckMode (Check wide) = Unit {0}
IsCheckMode GroupsCheck = Unit {0}
IsCheckMode mode = ⊥
