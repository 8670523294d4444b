use Rattle.std.proofs.Common.{ℕ, List, ap, ◌∙◌}
use Rattle.league_core.specs.game.Sums.{has_club}
use Rattle.league_core.proofs.WalkLemmas.{comes_to}
use Rattle.example_finish.specs.inside.ProposedTotals.{by_criterion}
use Rattle.example_finish.proofs.GroupStandingLemmas.{standing_next}
use Rattle.example_finish.proofs.standing.Standing.by.Goals as goal

pub loop-other-init : goal.loop-other-init
loop-other-init c = record {
  ahead = λ x. ap (λ (clubs : List ℕ). has_club clubs x) c.empty.ensures;
  level = λ x. ap (λ (clubs : List ℕ). has_club clubs x) c.empty-2.ensures;
}

pub with-standing-requires : goal.with-standing-requires
with-standing-requires c =
    (comes_to c.args.group c.loop-other.yielded c.in-Some.other
    (c.into_iter-other-iterator.ensures.into_iter_gives ∙ c.clubs-other-items.ensures.all)
    c.loop-other.yielded_by c.in-Some.ensures.steps).low

pub loop-other-preserved : goal.loop-other-preserved
loop-other-preserved c =
    let comparison = c.args.comparison.now in
    standing_next (by_criterion comparison.criterion comparison.sheet.now comparison.season.now
    comparison.table.now) c.loop-other.yielded c.args.club c.in-Some.other c.loop-other.standing
    c.with-standing.result c.with-standing.ensures.ahead c.with-standing.ensures.level
    c.loop-other.invariant
