use Rattle.std.proofs.Common.{◌∷◌, []}
use Rattle.check_bounds.proofs.tie_rounds.records_of.Goals as goal

pub returns : goal.returns
returns c =
    let are = c.records.ensures in
    λ club i. are.points club i ∷ are.difference club i ∷ are.goals club i ∷ []
