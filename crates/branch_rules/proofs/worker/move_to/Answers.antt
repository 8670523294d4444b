use Rattle.std.proofs.Common.{◌-◌, IsTrue, length, sym, ap, subst}
use Rattle.league_core.specs.declared.sheet.Sheet.{Sheet}
use Rattle.score_box.specs.inside.ZoneBoxViews.{ZoneBoxView}
use Rattle.std.proofs.Common.{take, drop}
use Rattle.league_core.specs.search.Zones.{is_zone_of}
use Rattle.branch_rules.proofs.FoundLemmas.{zone_part}
use Rattle.branch_rules.proofs.worker.move_to.Goals as goal

pub go_on-requires : goal.go_on-requires
go_on-requires c =
    let zone = c.args.zone.now in
    let common = c.common_prefix-common.result in
    subst (λ (s : Sheet). IsTrue (is_zone_of s (take (length zone - common) (drop common zone))))
    (sym (ap (λ (b : ZoneBoxView). b.sheet) c.go_back.ensures))
    (zone_part c.args.zone_box.now.sheet zone common (length zone - common) c.requires)
