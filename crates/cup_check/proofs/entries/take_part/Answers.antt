use Rattle.std.proofs.Common.{◌∙◌, ◌+◌, ◌<◌, ◌^◌, List, Ok, length, subst}
use Rattle.league_core.specs.game.Results.{Results}
use Rattle.cert_check.specs.Outcomes.{ReportProgressView}
use Rattle.cup_sheet.specs.CupFeeds.{joint_sheet}
use Rattle.cup_check.specs.inside.CupCheckCalls.{ChecksCup}
use Rattle.cup_check.specs.inside.CupInputCalls.{IsProgressWithin}
use Rattle.cup_check.proofs.CupEntryLemmas.{way-parted}
use Rattle.cup_check.proofs.entries.take_part.Goals as goal

pub returns-in-Ok-clause-way : goal.returns-in-Ok-clause-way
returns-in-Ok-clause-way c = λ entries.
    let cup = c.args.cup.now in
    let lines = c.args.told.now.lines in
    let seen : ReportProgressView = record {
      season = c.standing.inside.season;
      epoch = c.standing.inside.epoch;
      at = c.standing.inside.at;
      rows = c.standing.inside.rows;
      unsettled = c.standing.inside.unsettled;
    } in
    let next : ReportProgressView = record {
      season = c.standing.inside.season;
      epoch = c.standing.inside.epoch;
      at = c.in-Ok.accepted.next;
      rows = c.standing.inside.rows + c.from.result;
      unsettled = c.standing.inside.unsettled + c.from-in-Ok.result;
    } in
    let P : ReportProgressView → Type 0 = λ old.
    IsProgressWithin (joint_sheet cup) (length lines) entries old
    → IsProgressWithin (joint_sheet cup) (length lines) (entries + 1) next in
    let Q : List Results → Type 0 = λ seasons.
    ChecksCup (record { cup = cup; seasons = seasons; epoch = seen.epoch }) lines seen.at
    (Ok c.in-Ok.accepted) in
    let checks = subst Q (c.as_slice.ensures ∙ (c.in_ok-seasons.ensures {u = tt}).value)
    c.in-Ok.ensures in
    let few : c.in-Ok.accepted.unsettled < 2 ^ 32 = search in
    subst P c.standing.view_is
    (way-parted cup lines entries seen next c.in-Ok.accepted checks c.requires.cup few
    (λ i. record {
      season = seen.season;
      epoch = seen.epoch;
      at = c.in-Ok.accepted.next;
      rows = seen.rows + (c.from.ensures ∙ checks.1) i;
      unsettled = seen.unsettled + c.from-in-Ok.ensures i;
    }))
