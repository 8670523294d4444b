-- That an input whose report on a cup is accepted has the sheet of a cup that may be played, and a
-- report that tells the truth of it.
use Rattle.std.specs.Prelude.{◌≡◌, ℕ, Ok, None, Some}
use Rattle.port_core.specs.Contents.{Contents}
use Rattle.cup_sheet.specs.declared.cup.Cup.{Cup}
use Rattle.cup_sheet.specs.Cups.{IsCup}
use Rattle.cup_sheet.specs.CupReadings.{cup_reading_of}
use Rattle.cert_check.specs.declared.outcome.CheckOutcome.TheVariants.{Accepted}
use Rattle.cup_check.specs.declared.outcome.CupOutcome.TheVariants.{Judged}
use Rattle.cup_check.specs.CupOutcomes.{cup_outcome_of}
use Rattle.cup_check.specs.inside.CupReportTruths.{HasTrueCupReport}

-- the sheet of a cup that may be played comes first, then a feed that ends with the record
-- `proofs`, and a report of it that tells the truth at each ask
pub record HasTrueCupInput (contents : Contents) : Type 0 where
  pub cup : Cup
  pub behind : Contents
  pub is_cup : cup_reading_of contents None ≡ record { gives = Ok cup; rest = behind }
  pub may_be_played : IsCup cup
  pub has_report : HasTrueCupReport cup behind

-- an input whose report is accepted is such
abbrev pub AcceptedCupsTellTruly : Type 0
AcceptedCupsTellTruly =
    (contents : Contents) (rows unsettled : ℕ)
    → cup_outcome_of contents ≡ Some (Judged (Accepted rows unsettled)) → HasTrueCupInput contents
