use Rattle.std.proofs.Common.{◌&&◌, ◌||◌, ◌==◌, ap, ◌∙◌}
use Rattle.league_core.specs.game.ClubSets.{clubs_in}
use Rattle.league_core.specs.game.Sums.{has_club}
use Rattle.near_bound.proofs.LevelLemmas.{held_are, held_in}
use Rattle.near_bound.proofs.level.Level.held_with.Goals as goal

pub returns-clause-held : goal.returns-clause-held
returns-clause-held c =
    let level = c.args.self.now in
    held_are level.tie level.rivals level.core c.with_if.result c.args.rival c.requires.level.core
    (λ x. c.with_if.ensures x
    ∙ ap (λ b. has_club (clubs_in level.core) x || (b && (c.args.rival == x))) c.has.ensures)

pub returns-clause-among : goal.returns-clause-among
returns-clause-among c =
    let level = c.args.self.now in
    held_in level.rivals level.core c.with_if.result c.args.rival c.requires.level.core_in
    (λ x. c.with_if.ensures x
    ∙ ap (λ b. has_club (clubs_in level.core) x || (b && (c.args.rival == x))) c.has.ensures)
