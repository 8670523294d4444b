-- No fixture is without an option exactly when each has one.
use Rattle.std.proofs.Common.{◌≡◌, ◌==◌, ap, ◌∙◌, subst}
use Rattle.league_core.specs.search.Options.{options_in, has_option, has_finish}
use Rattle.score_box.specs.inside.ZoneBoxViews.{ZoneBoxView}
use Rattle.score_box.proofs.zone_box.ZoneBox.has_finish.Goals as goal
use Rattle.league_core.proofs.plain.Counts.{all_counted}

pub returns : goal.returns
unfolding has_finish
returns c =
    let box = c.self.inside in
    let At : ZoneBoxView
    → Type 0 = λ v. (box.ends.empty == 0) ≡ has_finish v.sheet v.season v.zone in
    subst At c.self.view_is
    (ap (λ n. n == 0) c.self.invariant.ends_are.empty
    ∙ all_counted has_option (options_in box.sheet.now box.season.now box.zone.items))
