use Rattle.std.proofs.Common.{sym, ap, ◌∙◌, rules, FitsSigned, w32}
use Rattle.std.proofs.lemmas.Int.{to_z-of_z}
use Rattle.tie_criteria.specs.inside.Measures.{worth_of}
use Rattle.tie_criteria.proofs.measure.worth.Goals as goal

pub returns-in-Points-clause-worth : goal.returns-in-Points-clause-worth
returns-in-Points-clause-worth c =
    let fits : FitsSigned w32 c.match_points.result = search rules in
    to_z-of_z w32 c.match_points.result fits
    ∙ c.match_points.ensures.points c.args.away
    ∙ ap (λ measure. worth_of measure c.args.scored c.args.conceded c.args.away)
    (sym c.in-Points.is)
