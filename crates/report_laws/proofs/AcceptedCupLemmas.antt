-- A report on a cup that is accepted tells the truth: each cup that is read may be played.
use Rattle.std.proofs.Common.{ap, subst}
use Rattle.cup_sheet.specs.Cups.{IsCup}
use Rattle.cup_sheet.specs.CupReadings.{CupReading}
use Rattle.cup_turns.proofs.CupLimitLemmas.{GivesCup, cup-limits}
use Rattle.cup_grammar.specs.inside.CupRowTruths.{AcceptedCupPartsAreTrue}
use Rattle.cup_check.proofs.CupInputTruthLemmas.{accepted_cup_tells_truly}
use Rattle.report_laws.specs.inside.AcceptedCups.{AcceptedCupsTellTruly}

pub accepted_cups : AcceptedCupPartsAreTrue → AcceptedCupsTellTruly
accepted_cups truths contents rows unsettled is =
    let told = accepted_cup_tells_truly truths contents rows unsettled is in
    let may_be_played : IsCup told.cup =
    subst GivesCup (ap (λ (r : CupReading). r.gives) told.is_cup) (cup-limits contents) in
    record {
      cup = told.cup;
      behind = told.behind;
      is_cup = told.is_cup;
      may_be_played = may_be_played;
      has_report = told.has_report may_be_played;
    }
