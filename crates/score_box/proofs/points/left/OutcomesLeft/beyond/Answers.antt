-- The points of both sides, less those of each.
use Rattle.std.proofs.Common.{arith}
use Rattle.std.proofs.lemmas.Int.{ints}
use Rattle.score_box.proofs.points.left.OutcomesLeft.beyond.Goals as goal

pub returns-clause-beyond : goal.returns-clause-beyond
returns-clause-beyond c cell options are is =
    let both = c.points-both.ensures cell are in
    let home = (c.worth-alone.ensures.points cell are).home in
    let away = (c.worth-alone.ensures.points cell are).away in (
      omega (
        arith,
        ints,
        both.least options is,
        home.least options is,
        away.least options is,
        c.from.ensures,
        c.from-2.ensures,
        c.from-3.ensures,
        both.in_order,
        both.at_most,
        home.in_order,
        home.at_most,
        away.in_order,
        away.at_most,
      ),
      omega (
        arith,
        ints,
        both.most options is,
        home.most options is,
        away.most options is,
        c.from-4.ensures,
        c.from-5.ensures,
        c.from-6.ensures,
        both.at_most,
        home.at_most,
        away.at_most,
      ),
    )

pub returns-clause-near : goal.returns-clause-near
returns-clause-near c cell are =
    let both = c.points-both.ensures cell are in
    let home = (c.worth-alone.ensures.points cell are).home in
    let away = (c.worth-alone.ensures.points cell are).away in (
      (
        omega (
          arith,
          ints,
          both.in_order,
          both.at_most,
          home.in_order,
          home.at_most,
          away.in_order,
          away.at_most,
          c.from.ensures,
          c.from-2.ensures,
          c.from-3.ensures,
        ),
        omega (
          arith,
          ints,
          both.in_order,
          both.at_most,
          home.in_order,
          home.at_most,
          away.in_order,
          away.at_most,
          c.from.ensures,
          c.from-2.ensures,
          c.from-3.ensures,
        ),
      ),
      (
        omega (
          arith,
          ints,
          both.at_most,
          home.at_most,
          away.at_most,
          c.from-4.ensures,
          c.from-5.ensures,
          c.from-6.ensures,
        ),
        omega (
          arith,
          ints,
          both.at_most,
          home.at_most,
          away.at_most,
          c.from-4.ensures,
          c.from-5.ensures,
          c.from-6.ensures,
        ),
      ),
    )
