-- The number comes after the others, or its match adds nothing.
use Rattle.std.proofs.Common.{arith}
use Rattle.flow_bound.specs.inside.Parts.{side_of}
use Rattle.flow_bound.specs.inside.Fixtures.{pair_at}
use Rattle.flow_bound.proofs.MeetingLemmas.{held_more, none_counts, sum_held}
use Rattle.flow_bound.proofs.meetings.hold_if.Goals as goal

pub returns-in-Some-clause-in_range : goal.returns-in-Some-clause-in_range
returns-in-Some-clause-in_range c = λ bound low before.
    held_more bound c.args.count c.args.number c.args.held.now c.requires.room low before

pub returns-in-Some-clause-sums : goal.returns-in-Some-clause-sums
returns-in-Some-clause-sums c = λ test within.
    sum_held test c.args.cut c.args.zone_box.now c.args.held.now c.args.count c.args.number
    c.requires.room

pub returns-in-None-clause-sums : goal.returns-in-None-clause-sums
returns-in-None-clause-sums c = λ test within.
    let box = c.args.zone_box.now in
    let none = none_counts test (side_of c.args.set) (pair_at c.args.cut box c.args.number) within
    c.in-None.ensures in
    omega (arith, none)
