use Rattle.std.proofs.Common.{◌+◌, arith}
use Rattle.near_bound.proofs.AbleClubLemmas.{one_takes, sides_take, near_wider}
use Rattle.near_bound.proofs.tie.Tie.take_match.Goals as goal

pub returns-then-has_one_at_most-clause-takes : goal.returns-then-has_one_at_most-clause-takes
returns-then-has_one_at_most-clause-takes c =
    one_takes c.args.self.now c.args.fixture c.args.all.now c.requires.tie c.requires.of_sheet
    (c.has_one_at_most.ensures c.if-has_one_at_most.true)

pub take_side-requires-2-clause-near : goal.take_side-requires-2-clause-near
take_side-requires-2-clause-near c =
    near_wider c.args.self.now 80003 90000 c.take_side.new.all.ends (omega arith)
    (c.take_side.ensures.near 80000 c.requires.near)

pub returns-clause-takes : goal.returns-clause-takes
returns-clause-takes c =
    sides_take c.args.self.now c.args.fixture c.match_of-match_of.result c.args.all.now
    c.take_side.new.all c.take_side-2.new.all c.requires.tie c.requires.of_sheet
    c.match_of-match_of.ensures.is c.match_of-match_of.ensures.apart c.take_side.ensures.takes
    c.take_side.ensures.others c.take_side-2.ensures.takes c.take_side-2.ensures.others

pub returns-clause-near : goal.returns-clause-near
returns-clause-near c = λ bound near.
    near_wider c.args.self.now (bound + 3 + 3) (bound + 6) c.take_side-2.new.all.ends (omega arith)
    (c.take_side-2.ensures.near (bound + 3) (c.take_side.ensures.near bound near))
