-- The away side wins and the home side loses.
use Rattle.std.proofs.Common.{Bool, true, false, sym, subst}
use Rattle.league_core.specs.search.Options.{is_away_win}
use Rattle.key_bounds.specs.inside.RowEnds.{AreEndsOf, passing}
use Rattle.key_bounds.proofs.PartLemmas.{away_part, away_part-is, away_part_loses, both_goals}
use Rattle.key_bounds.proofs.HullLemmas.{part_ends}
use Rattle.key_bounds.proofs.outcomes.of_away_win.Goals as goal

pub returns-then-away : goal.returns-then-away
returns-then-away c = λ cell are.
    let At : Bool → Type 0 = λ b. AreEndsOf (passing cell is_away_win) b c.won.result in
    subst At (sym c.if-away.true)
    (part_ends cell (away_part cell) is_away_win true c.won.result (away_part-is cell)
    (c.won.ensures (away_part cell) (away_part_loses cell)
    (both_goals cell (away_part cell) is_away_win c.args.goals.now true c.of-visitors.result
    c.of-home.result (away_part-is cell) are c.of-visitors.ensures c.of-home.ensures)))

pub returns-else-away : goal.returns-else-away
returns-else-away c = λ cell are.
    let At : Bool → Type 0 = λ b. AreEndsOf (passing cell is_away_win) b c.lost.result in
    subst At (sym c.if-away.false)
    (part_ends cell (away_part cell) is_away_win false c.lost.result (away_part-is cell)
    (c.lost.ensures (away_part cell) (away_part_loses cell)
    (both_goals cell (away_part cell) is_away_win c.args.goals.now false c.of-home.result
    c.of-visitors.result (away_part-is cell) are c.of-home.ensures c.of-visitors.ensures)))
