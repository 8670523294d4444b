-- A report on a cup entry by entry: what each does, and how far the report is read then.
use Rattle.std.proofs.Common.{◌≡◌, ◌≤◌, ◌<◌, ℕ, ◌+◌, ◌^◌, List, None, Some}
use Rattle.std.proofs.Common.{length, Result, Ok, Err, sym, ap, ◌∙◌, arith}
use Rattle.std.proofs.Common.{IfOk, subst, length-append}
use Rattle.std.proofs.lemmas.List.{length-drop, length-map}
use Rattle.league_core.specs.declared.memory.OutOfMemory.{OutOfMemory}
use Rattle.league_core.specs.declared.sheet.Sheet.{Sheet}
use Rattle.league_core.specs.declared.season.Event.{Event}
use Rattle.league_core.specs.game.Seasons.{IsEventOf}
use Rattle.league_core.proofs.LogLemmas.{IsEventOf-same, IsSeasonOf-applied, unplayed_of}
use Rattle.result_log.specs.declared.entry.Entry.TheVariants.{Change, Ask}
use Rattle.kept_lines.specs.LineLists.{NumberedLine}
use Rattle.cert_check.specs.LineGrammars.{Ending}
use Rattle.cert_check.specs.declared.stop.Accepted.{Accepted as PartAccepted}
use Rattle.cert_check.specs.declared.stop.CheckStop.{CheckStop}
use Rattle.cert_check.specs.declared.stop.CheckStop.TheVariants as check_stop
use Rattle.cert_check.specs.declared.outcome.ReportFault.TheVariants.{BadLine, NoProof, Short}
use Rattle.cert_check.specs.declared.outcome.CheckOutcome.{CheckOutcome}
use Rattle.cert_check.specs.declared.outcome.CheckOutcome.TheVariants.{Refused}
use Rattle.cert_check.specs.Outcomes.{ReportProgressView, first_progress, progress_with}
use Rattle.cert_check.specs.inside.InputCalls.{IsEntryOf, IsRefusedBy}
use Rattle.cup_sheet.specs.declared.cup.Cup.{Cup}
use Rattle.cup_sheet.specs.Cups.{IsCup}
use Rattle.cup_sheet.specs.CupFeeds.{joint_sheet}
use Rattle.cup_feed.proofs.FeedLemmas.{cup_clubs}
use Rattle.cup_grammar.specs.declared.token.CupToken.{CupToken}
use Rattle.cup_grammar.specs.CupReports.{cup_token_of, cup_tokens_of}
use Rattle.cup_grammar.specs.PlacedGroups.{CupBasis}
use Rattle.cup_grammar.specs.inside.CupRowTruths.{SaysTrulyInCup}
use Rattle.cup_check.specs.inside.CupCheckCalls.{ChecksCup}
use Rattle.cup_check.specs.CupOutcomes.{CupReportInput, cup_basis, cup_outcome_by}
use Rattle.cup_check.specs.CupOutcomes.{cup_progress_after}
use Rattle.cup_check.specs.inside.CupInputCalls.{GoesOverCupEntry, IsProgressWithin}

-- ---- what an entry does

-- the part of an ask is whole
pub part_over : (report : CupReportInput) (old new : ReportProgressView) (part : PartAccepted)
    → ChecksCup (cup_basis report.cup old.season old.epoch) report.lines old.at (Ok part)
    → new ≡ cup_progress_after report.cup old part.next part.unsettled
    → GoesOverCupEntry report old new Ask None
part_over report old new part checks is = λ onward.
    ap (λ (ending : Ending). cup_outcome_by report old ending onward) checks.0
    ∙ ap onward (sym is)

-- it stops
pub part_stops : (report : CupReportInput) (old new : ReportProgressView) (stop : CheckStop)
    (result : Result CheckOutcome OutOfMemory)
    → ChecksCup (cup_basis report.cup old.season old.epoch) report.lines old.at (Err stop)
    → IsRefusedBy report.end stop result
    → IfOk result (λ outcome. GoesOverCupEntry report old new Ask (Some outcome))
part_stops report old new (check_stop.BadLine number) (Ok outcome) checks answers = λ onward.
    let is : outcome ≡ Refused number BadLine = cc in
    ap (λ (ending : Ending). cup_outcome_by report old ending onward) checks.2
    ∙ ap (λ (n : ℕ). Refused n BadLine) (sym checks.3) ∙ sym is
part_stops report old new (check_stop.NoProof number) (Ok outcome) checks answers = λ onward.
    let is : outcome ≡ Refused number NoProof = cc in
    ap (λ (ending : Ending). cup_outcome_by report old ending onward) checks.2
    ∙ ap (λ (n : ℕ). Refused n NoProof) (sym checks.3) ∙ sym is
part_stops report old new check_stop.Short (Ok outcome) checks answers = λ onward.
    let is : outcome ≡ Refused report.end Short = cc in
    ap (λ (ending : Ending). cup_outcome_by report old ending onward) checks ∙ sym is
part_stops report old new check_stop.OutOfMemory (Ok outcome) checks answers = absurd answers
part_stops report old new stop (Err want) checks answers = tt

-- ---- how far the report is read

-- nothing is read
pub way-begin : (sheet : Sheet) (lines : ℕ) → IsProgressWithin sheet lines 0 (first_progress sheet)
way-begin sheet lines = record {
  season = unplayed_of sheet;
  at = omega arith;
  epoch = omega arith;
  rows = omega arith;
  unsettled = omega arith;
}

-- the event of an entry may come there
pub way-event : (sheet : Sheet) (lines entries : ℕ) (standing : ReportProgressView) (event : Event)
    → IsProgressWithin sheet lines entries standing → IsEntryOf sheet (Change event)
    → IsEventOf standing.season event
way-event sheet lines entries standing event way of_sheet =
    IsEventOf-same sheet _ standing.season event (unplayed_of sheet) way.season of_sheet

-- an event more
pub way-changed : (sheet : Sheet) (lines entries : ℕ) (old new : ReportProgressView)
    (event : Event) → IsProgressWithin sheet lines entries old
    → new ≡ progress_with old (Change event) → IsProgressWithin sheet lines (entries + 1) new
way-changed sheet lines entries old new event way is =
    subst (IsProgressWithin sheet lines (entries + 1)) (sym is) (record {
      season = IsSeasonOf-applied sheet old.season event way.season;
      at = way.at;
      epoch = omega (arith, way.epoch);
      rows = omega (arith, way.rows);
      unsettled = omega (arith, way.unsettled);
    })

-- nothing more
pub way-same : (sheet : Sheet) (lines entries : ℕ) (standing : ReportProgressView)
    → IsProgressWithin sheet lines entries standing
    → IsProgressWithin sheet lines (entries + 1) standing
way-same sheet lines entries standing way = record {
  season = way.season;
  at = way.at;
  epoch = omega (arith, way.epoch);
  rows = omega (arith, way.rows);
  unsettled = omega (arith, way.unsettled);
}

-- a part ends within the lines
part-within : (basis : CupBasis) (lines : List NumberedLine) (from next : ℕ)
    → SaysTrulyInCup basis lines from next → from ≤ length lines → next ≤ length lines
part-within basis lines from next told room =
    let shown : NumberedLine → CupToken = λ l. cup_token_of l.text in
    omega (
      arith,
      told.3,
      room,
      length-map lines shown,
      ap length told.2,
      length-append told.0 told.1,
      length-drop from (cup_tokens_of lines),
    )

-- a part more
pub way-parted : (cup : Cup) (lines : List NumberedLine) (entries : ℕ)
    (old new : ReportProgressView) (part : PartAccepted)
    → ChecksCup (cup_basis cup old.season old.epoch) lines old.at (Ok part)
    → IsCup cup → part.unsettled < 2 ^ 32
    → new ≡ cup_progress_after cup old part.next part.unsettled
    → IsProgressWithin (joint_sheet cup) (length lines) entries old
    → IsProgressWithin (joint_sheet cup) (length lines) (entries + 1) new
way-parted cup lines entries old new part checks is_cup unsettled is way =
    subst (IsProgressWithin (joint_sheet cup) (length lines) (entries + 1)) (sym is) (record {
      season = way.season;
      at = part-within (cup_basis cup old.season old.epoch) lines old.at part.next checks.2 way.at;
      epoch = omega (arith, way.epoch);
      rows = omega (arith, way.rows, cup_clubs cup is_cup);
      unsettled = omega (arith, way.unsettled, unsettled);
    })
