-- What the status of a run says, by its mode.
use Rattle.std.proofs.Common.{◌≡◌, ◌≢◌, ℕ, Bool, List, [], ◌++◌, Option, Some, None, refl, subst}
use Rattle.std.proofs.Common.{codes, replicate, sym, inl, inr}
use Rattle.std.specs.Prelude.{◌⊎◌}
use Rattle.run_ends.specs.declared.status.Status.{Status}
use Rattle.run_ends.specs.declared.status.Status.TheVariants.{Done, BadWords, BadSheet, BadFeed}
use Rattle.run_ends.specs.declared.status.Status.TheVariants.{ReadFault, WriteFault, OutOfMemory}
use Rattle.run_ends.specs.declared.status.Status.TheVariants.{NotProved, TooLong}
use Rattle.command_words.specs.declared.command.Mode.{Mode}
use Rattle.command_words.specs.declared.command.Mode.TheVariants.{Verdicts, Table, Scores, WhatIf}
use Rattle.command_words.specs.declared.command.Mode.TheVariants.{Save, Resume, Decide, Check}
use Rattle.command_words.specs.declared.command.Mode.TheVariants.{Groups, GroupsCheck, Sample}
use Rattle.cert_check.specs.declared.expected.ReportKind.{ReportKind}
use Rattle.futmax_main.specs.Checks.{Judge, ServesCheck, kind_of_check, report_judge}
use Rattle.futmax_main.specs.CupModes.{cup_judge, groups_kind}
use Rattle.futmax_main.specs.SampleRows.{ServesSample}
use Rattle.futmax_main.specs.Modes.{IsChecked, IsCheckMode, IsCheckSettled, IsSettledAs}
use Rattle.futmax_main.specs.Modes.{ReadsNothing, ServesAs, StopsAs}
use Rattle.futmax_main.specs.inside.ModeEnds.{MayEndAs}
use Rattle.cup_turns.proofs.CupEarnedLemmas.{cup-settled}
use Rattle.futmax_main.specs.CupModes.{IsGroupsAnswer}
use Rattle.futmax_main.proofs.EarnedLemmas.{settled}
use Rattle.futmax_main.proofs.CheckedCupLemmas.{cup_checked-bad_feed, cup_checked-bad_sheet}
use Rattle.futmax_main.proofs.CheckedCupLemmas.{cup_checked-done, cup_checked-not_proved}
use Rattle.futmax_main.proofs.CheckedCupLemmas.{cup_checked-too_long, pair_cup}
use Rattle.futmax_main.proofs.GroupsAnsweredLemmas.{groups-answered}
use Rattle.futmax_main.proofs.CheckedLemmas.{checked-bad_feed, checked-bad_sheet, checked-done}
use Rattle.futmax_main.proofs.CheckedLemmas.{checked-not_proved, checked-too_long, ended_line}
use Rattle.futmax_main.proofs.CheckedLemmas.{pair_sheet}
use Rattle.futmax_main.proofs.CheckLemmas.{check-starved}
use Rattle.league_core.proofs.plain.Streams.{append_known-nothing}
use Rattle.run_ends.proofs.RunEndLemmas.{serves-nothing}
use Rattle.run_ends.specs.LastReads.{StopsSession}
use Rattle.run_ends.specs.Runs.{Serves}
use Rattle.run_ends.specs.inside.RunTurns.{MayEndSession}
use Rattle.session_turns.proofs.AnsweredLemmas.{session-answered}
use Rattle.session_turns.specs.LastReads.{LeadSession}
use Rattle.cup_turns.specs.CupLastReads.{LeadCup}
use Rattle.session_turns.specs.Texts.{session_kind}
use Rattle.run_ends.proofs.StandLemmas.{stops-nothing}

-- some input is checked with each status that it may have
record AreChecked {Outcome : Type 0} (judge : Judge Outcome) : Type 0 where
  done : (input : List ℕ) × IsChecked judge input Done
  bad_sheet : (input : List ℕ) × IsChecked judge input BadSheet
  bad_feed : (input : List ℕ) × IsChecked judge input BadFeed
  not_proved : (input : List ℕ) × IsChecked judge input NotProved
  too_long : (input : List ℕ) × IsChecked judge input TooLong

-- of reports on leagues
reports-checked : (kind : ReportKind) → AreChecked (report_judge kind)
reports-checked kind = record {
  done = (pair_sheet ++ ended_line (codes "proofs"), checked-done kind);
  bad_sheet = ([], checked-bad_sheet kind);
  bad_feed = (pair_sheet ++ ended_line (codes "x"), checked-bad_feed kind);
  not_proved = (pair_sheet, checked-not_proved kind);
  too_long = (replicate 1025 97, checked-too_long kind);
}

-- and on cups
cups-checked : AreChecked cup_judge
cups-checked = record {
  done = (pair_cup ++ ended_line (codes "proofs"), cup_checked-done);
  bad_sheet = ([], cup_checked-bad_sheet);
  bad_feed = (pair_cup ++ ended_line (codes "x"), cup_checked-bad_feed);
  not_proved = (pair_cup, cup_checked-not_proved);
  too_long = (replicate 1025 97, cup_checked-too_long);
}

-- the status of a check in which no device failed
check-settled : {Outcome : Type 0} (judge : Judge Outcome) → AreChecked judge
    → (input left old now : Option (List ℕ)) (status : Status)
    → ServesCheck judge input left old now status → status ≢ BadWords → status ≢ ReadFault
    → status ≢ WriteFault → IsCheckSettled judge input status
check-settled judge known None left old now Done serves words read write = inl known.done
check-settled judge known None left old now BadWords serves words read write =
    absurd (words refl)
check-settled judge known None left old now BadSheet serves words read write =
    inl known.bad_sheet
check-settled judge known None left old now BadFeed serves words read write = inl known.bad_feed
check-settled judge known None left old now ReadFault serves words read write =
    absurd (read refl)
check-settled judge known None left old now WriteFault serves words read write =
    absurd (write refl)
check-settled judge known None left old now OutOfMemory serves words read write = inr refl
check-settled judge known None left old now NotProved serves words read write =
    inl known.not_proved
check-settled judge known None left old now TooLong serves words read write = inl known.too_long
check-settled judge known (Some input) left old now Done serves words read write =
    let text = serves.2.0 in inl (text.0, text.1, text.2)
check-settled judge known (Some input) left old now BadWords serves words read write =
    absurd (words refl)
check-settled judge known (Some input) left old now BadSheet serves words read write =
    let text = serves.2 in inl (text.0, text.1, text.2)
check-settled judge known (Some input) left old now BadFeed serves words read write =
    let text = serves.2 in inl (text.0, text.1, text.2)
check-settled judge known (Some input) left old now ReadFault serves words read write =
    absurd (read refl)
check-settled judge known (Some input) left old now WriteFault serves words read write =
    absurd (write refl)
check-settled judge known (Some input) left old now OutOfMemory serves words read write = inr refl
check-settled judge known (Some input) left old now NotProved serves words read write =
    let text = serves.2.0 in inl (text.0, text.1, text.2)
check-settled judge known (Some input) left old now TooLong serves words read write =
    let text = serves.2 in inl (text.0, text.1, text.2)

-- of a sample
sample-settled : (seed : ℕ) (old now : Option (List ℕ)) (input : Option (List ℕ)) (status : Status)
    → ServesSample seed old now status → status ≢ WriteFault
    → IsSettledAs (Some (Sample seed)) input status
sample-settled seed old now input Done serves write = inl refl
sample-settled seed old now input BadWords serves write = absurd serves
sample-settled seed old now input BadSheet serves write = absurd serves
sample-settled seed old now input BadFeed serves write = absurd serves
sample-settled seed old now input ReadFault serves write = absurd serves
sample-settled seed old now input WriteFault serves write = absurd (write refl)
sample-settled seed old now input OutOfMemory serves write = inr refl
sample-settled seed old now input NotProved serves write = absurd serves
sample-settled seed old now input TooLong serves write = absurd serves

-- of any run
pub mode-settled : (mode : Mode) (input left : Option (List ℕ)) (told : Bool)
    (old now : Option (List ℕ)) (status : Status)
    → ServesAs (Some mode) input left told old now status → MayEndAs mode status
    → status ≢ ReadFault → status ≢ WriteFault → IsSettledAs (Some mode) input status
mode-settled (Check wide) input left told old now status serves may read write =
    check-settled (report_judge (kind_of_check wide)) (reports-checked (kind_of_check wide)) input
    left old now status serves may read write
mode-settled (Groups proofs) input left told old now status serves may read write =
    cup-settled (IsGroupsAnswer proofs) input left told old now status serves may read write
mode-settled GroupsCheck input left told old now status serves may read write =
    check-settled cup_judge cups-checked input left old now status serves may read write
mode-settled (Sample seed) input left told old now status serves may read write =
    sample-settled seed old now input status serves write
mode-settled mode input left told old now status serves may read write =
    settled mode input left told old now status serves may read write

-- nothing was written, since there was no memory for the words
pub serves_as-no_memory : (mode : Option Mode) (input left : Option (List ℕ)) (told : Bool)
    (old : Option (List ℕ)) → ServesAs mode input left told old old OutOfMemory
serves_as-no_memory None input left told old = ([], append_known-nothing old, refl)
serves_as-no_memory (Some (Check wide)) input left told old =
    check-starved (report_judge (kind_of_check wide)) input left old
serves_as-no_memory (Some (Groups proofs)) input left told old =
    serves-nothing (groups_kind proofs) (groups-answered proofs) input left told old
serves_as-no_memory (Some GroupsCheck) input left told old =
    check-starved cup_judge input left old
serves_as-no_memory (Some (Sample seed)) input left told old = refl
serves_as-no_memory (Some mode) input left told old = serves-nothing (session_kind mode)
    (session-answered mode) input left told old

-- nothing was read
pub stops-unread : {S : Type 0} (left : S → Option (List ℕ)) (reads : S → List ℕ → S → Type 0)
    (mode : Option Mode) (source : S) (status : Status)
    → StopsAs left reads mode source source status
stops-unread left reads None source status = tt
stops-unread left reads (Some (Check wide)) source status = tt
stops-unread left reads (Some GroupsCheck) source status = tt
stops-unread left reads (Some (Sample seed)) source status = tt
stops-unread left reads (Some (Groups proofs)) source status =
    stops-nothing left reads LeadCup source status
stops-unread left reads (Some mode) source status =
    stops-nothing left reads (LeadSession mode) source status

-- running out of memory is a status of any run
pub settled_as-no_memory : (mode : Option Mode) (input : Option (List ℕ))
    → IsSettledAs mode input OutOfMemory
settled_as-no_memory None input = inr refl
settled_as-no_memory (Some (Check wide)) None = inr refl
settled_as-no_memory (Some (Check wide)) (Some input) = inr refl
settled_as-no_memory (Some GroupsCheck) None = inr refl
settled_as-no_memory (Some GroupsCheck) (Some input) = inr refl
settled_as-no_memory (Some (Groups proofs)) None = inr refl
settled_as-no_memory (Some (Groups proofs)) (Some input) = inr refl
settled_as-no_memory (Some (Sample seed)) input = inr refl
settled_as-no_memory (Some mode) None = inr refl
settled_as-no_memory (Some mode) (Some input) = inr refl

-- only a check says that a report is no proof
pub only_checks : (mode : Mode) (status : Status) → MayEndAs mode status → status ≡ NotProved
    → IsCheckMode mode
only_checks (Check wide) status may is = tt
only_checks GroupsCheck status may is = tt
only_checks mode status may is = absurd (subst MayEndSession is may)

-- ---- the modes that answer asks

abbrev pub AnswersAsks : Mode → Type 0
AnswersAsks mode =
    ((proofs : Bool) × (mode ≡ Verdicts proofs))
    ⊎ ((mode ≡ Table) ⊎ ((mode ≡ Scores) ⊎ ((mode ≡ WhatIf)
    ⊎ ((mode ≡ Save) ⊎ (((proofs : Bool) × (mode ≡ Resume proofs))
    ⊎ ((proofs : Bool) × (mode ≡ Decide proofs)))))))

-- what holds of each of them
asking : (P : Mode → Type 0) → ((proofs : Bool) → P (Verdicts proofs)) → P Table → P Scores
    → P WhatIf → P Save → ((proofs : Bool) → P (Resume proofs))
    → ((proofs : Bool) → P (Decide proofs)) → (mode : Mode) → AnswersAsks mode → P mode
asking P verdicts table scores what_if save resume decide mode (inl is) =
    subst P (sym is.1) (verdicts is.0)
asking P verdicts table scores what_if save resume decide mode (inr (inl is)) = subst P (sym is)
    table
asking P verdicts table scores what_if save resume decide mode (inr (inr (inl is))) =
    subst P (sym is) scores
asking P verdicts table scores what_if save resume decide mode (inr (inr (inr (inl is)))) =
    subst P (sym is) what_if
asking P verdicts table scores what_if save resume decide mode (inr (inr (inr (inr (inl is))))) =
    subst P (sym is) save
asking P verdicts table scores what_if save resume decide mode
    (inr (inr (inr (inr (inr (inl is)))))) = subst P (sym is.1) (resume is.0)
asking P verdicts table scores what_if save resume decide mode
    (inr (inr (inr (inr (inr (inr is)))))) = subst P (sym is.1) (decide is.0)

-- a session serves as its mode has to
pub session-serves : (mode : Mode) (input left : Option (List ℕ)) (told : Bool)
    (old now : Option (List ℕ)) (status : Status) → AnswersAsks mode
    → Serves (session_kind mode) input left told old now status
    → ServesAs (Some mode) input left told old now status
session-serves mode input left told old now status is =
    let P : Mode → Type 0 =
    λ m. Serves (session_kind m) input left told old now status
    → ServesAs (Some m) input left told old now status in
    asking P (λ proofs serves. serves) (λ serves. serves) (λ serves. serves)
    (λ serves. serves) (λ serves. serves) (λ proofs serves. serves) (λ proofs serves. serves) mode
    is

-- and stops so
pub session-stops : {S : Type 0} (left : S → Option (List ℕ)) (reads : S → List ℕ → S → Type 0)
    (mode : Mode) (before after : S) (status : Status) → AnswersAsks mode
    → StopsSession left reads (LeadSession mode) before after status
    → StopsAs left reads (Some mode) before after status
session-stops left reads mode before after status is =
    let P : Mode → Type 0 =
    λ m. StopsSession left reads (LeadSession m) before after status
    → StopsAs left reads (Some m) before after status in
    asking P (λ proofs stops. stops) (λ stops. stops) (λ stops. stops) (λ stops. stops)
    (λ stops. stops) (λ proofs stops. stops) (λ proofs stops. stops) mode is

-- and ends so
pub session-ends : (mode : Mode) (status : Status) → AnswersAsks mode → MayEndSession status
    → MayEndAs mode status
session-ends mode status is =
    let P : Mode → Type 0 = λ m. MayEndSession status → MayEndAs m status in
    asking P (λ proofs may. may) (λ may. may) (λ may. may) (λ may. may) (λ may. may)
    (λ proofs may. may) (λ proofs may. may) mode is

-- and reads its input
pub session-reads : (mode : Mode) → AnswersAsks mode → ReadsNothing (Some mode) → ⊥
session-reads mode is =
    let P : Mode → Type 0 = λ m. ReadsNothing (Some m) → ⊥ in
    asking P (λ proofs none. none) (λ none. none) (λ none. none) (λ none. none) (λ none. none)
    (λ proofs none. none) (λ proofs none. none) mode is
