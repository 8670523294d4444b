use Rattle.league_core.specs.search.Options.{is_draw}
use Rattle.key_bounds.proofs.PartLemmas.{draw_part, draw_part-is, draws_for, own_goals}
use Rattle.key_bounds.proofs.HullLemmas.{part_ends}
use Rattle.key_bounds.proofs.outcomes.of_draw.Goals as goal

pub returns : goal.returns
returns c = λ cell are.
    part_ends cell (draw_part cell) is_draw c.args.away c.drawn.result (draw_part-is cell)
    (c.drawn.ensures (draw_part cell) (draws_for cell c.args.away)
    (own_goals cell (draw_part cell) is_draw c.args.goals.now c.args.away c.of.result
    (draw_part-is cell) are c.of.ensures))
