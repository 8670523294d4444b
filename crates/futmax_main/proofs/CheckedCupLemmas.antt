-- Five worked inputs of a check of a cup, one for each status that it may have.
use Rattle.std.proofs.Common.{ℕ, List, [], ◌∷◌, ◌++◌, codes, replicate, refl}
use lib.Utf8.{encode}
use Rattle.std.specs.Str.{chars, is_utf8}
use Rattle.csv.specs.Machine.{next_record}
use Rattle.csv.specs.Reading.{strip_bom}
use Rattle.cup_sheet.specs.declared.fault.CupFault.TheVariants.{NoCup}
use Rattle.result_log.specs.declared.fault.FeedFault.TheVariants.{UnknownRecord}
use Rattle.cert_check.specs.declared.outcome.ReportFault.TheVariants.{Short}
use Rattle.cert_check.specs.declared.outcome.CheckOutcome.TheVariants as outcome
use Rattle.cup_check.specs.declared.outcome.CupOutcome.TheVariants.{BadCup, Judged}
use Rattle.run_ends.specs.declared.status.Status.TheVariants.{Done, BadSheet, BadFeed}
use Rattle.run_ends.specs.declared.status.Status.TheVariants.{NotProved, TooLong}
use Rattle.futmax_main.specs.CupModes.{cup_judge}
use Rattle.futmax_main.specs.Modes.{IsChecked}
use Rattle.futmax_main.proofs.CheckedLemmas.{ended_line}

-- a cup of two groups in which nobody meets
abbrev pub pair_cup : List ℕ
pair_cup =
    ended_line (codes "cup,T,1,1,1")
    ++ (ended_line (codes "group,A") ++ (ended_line (codes "club,A,1")
    ++ (ended_line (codes "club,B,2") ++ (ended_line (codes "club,C,3")
    ++ (ended_line (codes "group,B") ++ (ended_line (codes "club,D,1")
    ++ (ended_line (codes "club,E,2") ++ (ended_line (codes "club,F,3")
    ++ ended_line (codes "season")))))))))

-- without an ask, the empty report is accepted
pub cup_checked-done : IsChecked cup_judge (pair_cup ++ ended_line (codes "proofs")) Done
unfolding next_record strip_bom is_utf8 chars encode
cup_checked-done = (Judged (outcome.Accepted 0 0), refl, refl)

-- no report comes
pub cup_checked-not_proved : IsChecked cup_judge pair_cup NotProved
unfolding next_record strip_bom is_utf8 chars encode
cup_checked-not_proved = (Judged (outcome.Refused 11 Short), refl, refl)

-- no cup stands in an empty input
pub cup_checked-bad_sheet : IsChecked cup_judge [] BadSheet
cup_checked-bad_sheet = (BadCup 1 NoCup, refl, refl)

-- a word that no feed has
pub cup_checked-bad_feed : IsChecked cup_judge (pair_cup ++ ended_line (codes "x")) BadFeed
unfolding next_record strip_bom is_utf8 chars encode
cup_checked-bad_feed = (Judged (outcome.BadFeed 11 UnknownRecord), refl, refl)

-- a line of 1025 bytes
pub cup_checked-too_long : IsChecked cup_judge (replicate 1025 97) TooLong
cup_checked-too_long = (Judged (outcome.LineTooLong 1), refl, refl)
