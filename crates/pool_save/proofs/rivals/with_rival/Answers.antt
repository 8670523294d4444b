use Rattle.std.proofs.Common.{refl, sym, ap, ◌∙◌}
use Rattle.std.proofs.lemmas.Bool.{eq-eqb}
use Rattle.league_core.specs.game.ClubSets.{clubs_in}
use Rattle.pool_save.specs.SavedReadings.{with_rival}
use Rattle.pool_save.proofs.RivalLemmas.{set_with, set_stays}
use Rattle.pool_save.proofs.rivals.with_rival.Goals as goal

pub with_if-requires : goal.with_if-requires
with_if-requires c =
    c.requires.small c.in-Rival.club
    (rw c.in-Rival.is (eq-eqb c.in-Rival.club c.in-Rival.club refl))

pub returns-in-Rival : goal.returns-in-Rival
returns-in-Rival c =
    set_with c.args.rivals c.with_if.result c.in-Rival.club c.with_if.ensures
    ∙ ap (with_rival (clubs_in c.args.rivals)) (sym c.in-Rival.is)

pub returns-in-Home : goal.returns-in-Home
returns-in-Home c =
    set_stays c.args.rivals _ (λ x. refl)
    ∙ ap (with_rival (clubs_in c.args.rivals)) (sym c.in-Home.is)

pub returns-in-Draw : goal.returns-in-Draw
returns-in-Draw c =
    set_stays c.args.rivals _ (λ x. refl)
    ∙ ap (with_rival (clubs_in c.args.rivals)) (sym c.in-Draw.is)

pub returns-in-HomeMost : goal.returns-in-HomeMost
returns-in-HomeMost c =
    set_stays c.args.rivals _ (λ x. refl)
    ∙ ap (with_rival (clubs_in c.args.rivals)) (sym c.in-HomeMost.is)

pub returns-in-AwayMost : goal.returns-in-AwayMost
returns-in-AwayMost c =
    set_stays c.args.rivals _ (λ x. refl)
    ∙ ap (with_rival (clubs_in c.args.rivals)) (sym c.in-AwayMost.is)
