-- What it means that the report on a cup in an input is accepted: each part of it tells the truth
-- of the groups' seasons at its ask, whatever joint finish may come.
use Rattle.std.specs.Prelude.{◌≡◌, ℕ, true, List, [], map, Ok}
use Rattle.port_core.specs.Contents.{Contents}
use Rattle.result_log.specs.declared.entry.Entry.{Entry}
use Rattle.result_log.specs.declared.entry.Entry.TheVariants.{Proofs}
use Rattle.result_log.specs.Feeds.{Feed, feed_of}
use Rattle.kept_lines.specs.LineLists.{numbered}
use Rattle.cert_check.specs.Outcomes.{ReportProgressView, first_progress}
use Rattle.cert_check.specs.inside.ReportTruths.{PartsSay}
use Rattle.cup_sheet.specs.declared.cup.Cup.{Cup}
use Rattle.cup_sheet.specs.CupFeeds.{joint_sheet}
use Rattle.cup_grammar.specs.inside.CupRowTruths.{SaysTrulyInCup}
use Rattle.cup_check.specs.CupOutcomes.{CupReportInput, cup_basis, cup_parted}

-- each part from here on tells the truth of the groups' seasons at its ask, when these entries of
-- the feed are left, and nothing that counts comes after the last
abbrev pub CupPartsTellTruly : CupReportInput → List Entry → ReportProgressView → Type 0
CupPartsTellTruly report entries standing =
    PartsSay (λ (it : ReportProgressView) next.
    SaysTrulyInCup (cup_basis report.cup it.season it.epoch) report.lines it.at next)
    (cup_parted report) entries standing

-- the contents after the sheet of a cup are a feed that ends with the record `proofs`, and a report
-- of it that tells the truth
pub record HasTrueCupReport (cup : Cup) (behind : Contents) : Type 0 where
  pub feed : Feed
  pub end : ℕ
  pub is_feed : feed_of (joint_sheet cup) true behind [] ≡ feed
  pub closed : feed.close ≡ Ok Proofs
  pub whole : feed.rest.ending ≡ Ok end
  pub tells : CupPartsTellTruly
      (record { cup = cup; lines = map numbered feed.rest.lines; end = end })
      feed.entries (first_progress (joint_sheet cup))
