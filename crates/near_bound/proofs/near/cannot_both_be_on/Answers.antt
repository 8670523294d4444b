use Rattle.std.proofs.Common.{ℤ, subst, w32}
use Rattle.std.proofs.lemmas.Int.{to_z-of_z}
use Rattle.near_bound.specs.inside.Levels.{IsLevelOf}
use Rattle.near_bound.proofs.near.cannot_both_be_on.Goals as goal

pub bars-requires-clause-table : goal.bars-requires-clause-table
bars-requires-clause-table c = c.new.ensures c.of.result.tie c.of.result.rivals c.of.result.club

pub returns : goal.returns
returns c = λ zone stands finish.
    c.bars.ensures.value c.args.left.now c.args.points c.args.club zone
    (subst (λ (points : ℤ). IsLevelOf c.args.left.now points c.args.club c.of.result)
    (to_z-of_z w32 c.args.points c.ranges.points) c.of.ensures.of) stands finish
