-- The away side loses and the home side wins.
use Rattle.std.proofs.Common.{Bool, true, false, sym, subst}
use Rattle.league_core.specs.search.Options.{is_home_win}
use Rattle.key_bounds.specs.inside.RowEnds.{AreEndsOf, passing}
use Rattle.key_bounds.proofs.PartLemmas.{home_part, home_part-is, home_part_wins, both_goals}
use Rattle.key_bounds.proofs.HullLemmas.{part_ends}
use Rattle.key_bounds.proofs.outcomes.of_home_win.Goals as goal

pub returns-then-away : goal.returns-then-away
returns-then-away c = λ cell are.
    let At : Bool → Type 0 = λ b. AreEndsOf (passing cell is_home_win) b c.lost.result in
    subst At (sym c.if-away.true)
    (part_ends cell (home_part cell) is_home_win true c.lost.result (home_part-is cell)
    (c.lost.ensures (home_part cell) (home_part_wins cell)
    (both_goals cell (home_part cell) is_home_win c.args.goals.now true c.of-visitors.result
    c.of-home.result (home_part-is cell) are c.of-visitors.ensures c.of-home.ensures)))

pub returns-else-away : goal.returns-else-away
returns-else-away c = λ cell are.
    let At : Bool → Type 0 = λ b. AreEndsOf (passing cell is_home_win) b c.won.result in
    subst At (sym c.if-away.false)
    (part_ends cell (home_part cell) is_home_win false c.won.result (home_part-is cell)
    (c.won.ensures (home_part cell) (home_part_wins cell)
    (both_goals cell (home_part cell) is_home_win c.args.goals.now false c.of-home.result
    c.of-visitors.result (home_part-is cell) are c.of-home.ensures c.of-visitors.ensures)))
