use Rattle.std.proofs.Common.{◌≡◌, true, sym, ◌∙◌, subst}
use Rattle.league_core.specs.search.Options.{has_finish}
use Rattle.near_laws.specs.Near.{cannot_both_have}
use Rattle.near_bound.specs.declared.zone_left.ZoneLeft.{ZoneLeft}
use Rattle.near_bound.specs.inside.ZonesLeft.{StandsFor}
use Rattle.near_bound.proofs.level.Level.bars.Goals as goal

pub returns-clause-value : goal.returns-clause-value
returns-clause-value c = λ left points club zone of stands finish.
    c.bars_here.ensures.value zone
    (c.requires.level.zones zone
    (subst (λ (l : ZoneLeft). StandsFor l zone) (sym of.left_is) stands)
    (subst (λ (l : ZoneLeft). has_finish l.sheet.now l.season.now zone ≡ true) (sym of.left_is)
    finish))
    ∙ (λ i. cannot_both_have (of.left_is i).sheet.now (of.left_is i).season.now zone
    (of.points_is i) (of.club_is i) c.args.rival)
