-- One side after the other, each at its own club.
use Rattle.check_bounds.proofs.WonLemmas.{match_exchanged}
use Rattle.check_bounds.proofs.won.exchange_match.Goals as goal
use Rattle.league_core.proofs.FixtureLemmas.{clubs_apart}

pub returns : goal.returns
returns c =
    match_exchanged c.args.fixture c.args.old.now c.args.new.now c.args.won.now c.exchange.new.won
    c.exchange-2.new.won c.points_in.result c.points_in-2.result c.points_in-3.result
    c.points_in-4.result (clubs_apart 24 c.args.fixture c.requires.team)
    c.points_in.ensures.range c.points_in-2.ensures.range c.points_in-3.ensures.range
    c.points_in-4.ensures.range c.exchange.ensures.own c.exchange.ensures.others
    c.exchange-2.ensures.own c.exchange-2.ensures.others
