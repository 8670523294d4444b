use Rattle.std.proofs.Common.{◌*◌, ◌+◌, ◌-◌, length, subst, sym, arith}
use Rattle.near_bound.specs.declared.margin.Margin.{Margin}
use Rattle.near_bound.specs.inside.Margins.{IsMarginWithin}
use Rattle.near_bound.specs.inside.PairLeads.{played_in}
use Rattle.near_bound.specs.inside.PlayedParts.{pair_margin}
use Rattle.near_bound.proofs.MarginLemmas.{margin_wider}
use Rattle.near_bound.proofs.PlayedPartLemmas.{part_near}
use Rattle.near_bound.proofs.tie.Tie.played_lead.Goals as goal

pub less-requires-clause-near : goal.less-requires-clause-near
less-requires-clause-near c =
    let left = c.args.self.now.left.now in
    let part = played_in c.args.self.now in
    let played = length left.sheet.now.fixtures - part.unplayed_count in
    subst (λ (m : Margin). IsMarginWithin 100000000 m) (sym c.of_pair.ensures)
    (margin_wider (255 * played) 100000000 (pair_margin part c.args.first.0 c.args.first.1)
    (omega (arith, c.requires.tie.left.league.limits.most_fixtures))
    ((part_near left.sheet.now left.season.now part c.requires.tie.left.played).pairs
    (32 * c.args.first.0 + c.args.first.1)))

pub less-requires-clause-other_near : goal.less-requires-clause-other_near
less-requires-clause-other_near c =
    let left = c.args.self.now.left.now in
    let part = played_in c.args.self.now in
    let played = length left.sheet.now.fixtures - part.unplayed_count in
    subst (λ (m : Margin). IsMarginWithin 100000000 m) (sym c.of_pair-2.ensures)
    (margin_wider (255 * played) 100000000 (pair_margin part c.args.second.0 c.args.second.1)
    (omega (arith, c.requires.tie.left.league.limits.most_fixtures))
    ((part_near left.sheet.now left.season.now part c.requires.tie.left.played).pairs
    (32 * c.args.second.0 + c.args.second.1)))
