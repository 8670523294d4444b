-- The set is not empty, and nothing of it is left without the marked ones.
use Rattle.std.proofs.Common.{◌&&◌, sym, ap, ◌∙◌}
use Rattle.std.specs.List.{list_all}
use Rattle.league_core.specs.game.ClubSets.{clubs_in}
use Rattle.tie_bound.proofs.GivenLemmas.{none_left, some_member}
use Rattle.tie_bound.proofs.given.are_some_of.Goals as goal

pub returns-then-not-is_empty : goal.returns-then-not-is_empty
returns-then-not-is_empty c test is =
    let clubs = clubs_in c.args.clubs in
    none_left c.is_empty-then-not-is_empty.result test c.args.clubs c.args.set c.without.result is
    c.without.ensures c.is_empty-then-not-is_empty.ensures.0 c.is_empty-then-not-is_empty.ensures.1
    ∙ sym (ap (λ b. b && list_all test clubs)
    (some_member clubs (λ none. sym c.if-not-is_empty.true ∙ c.is_empty.ensures.1 none)))
