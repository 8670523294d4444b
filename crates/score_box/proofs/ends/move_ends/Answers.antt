-- The numbers of the match's clubs and the two counts move on, each by what the two cells have.
use Rattle.std.proofs.Common.{◌≡◌, ℕ, ◌<◌, not, ◌||◌, cond, List, [], length, get_or, ap}
use Rattle.std.proofs.Common.{◌∙◌, arith}
use Rattle.std.proofs.lemmas.Int.{ints}
use Rattle.league_core.specs.declared.season.Score.{Score}
use Rattle.league_core.specs.search.Options.{has_option, has_one_outcome}
use Rattle.score_box.specs.declared.cell.Cell.{Cell}
use Rattle.score_box.specs.declared.points.left.OutcomesLeft.{OutcomesLeft}
use Rattle.score_box.specs.inside.Cells.{IsCellOf, at_most_one}
use Rattle.score_box.specs.inside.Points.{AreOutcomesLeft}
use Rattle.score_box.proofs.LeftLemmas.{none_left, left_none, one_left, left_one}
use Rattle.score_box.proofs.EndLemmas.{ranges_small, ranges_moved, empty_set, several_set}
use Rattle.score_box.proofs.EndLemmas.{empty_counts, several_counts, empty_is, outcome_is}
use Rattle.score_box.proofs.ends.move_ends.Goals as goal

-- if none is left, the options count as none
empty_counted : (cell : Cell) (left : OutcomesLeft) (options : List Score) (empty : ℕ)
    → AreOutcomesLeft cell left → IsCellOf cell options
    → empty ≡ cond (not (left.home_win || left.draw || left.away_win)) 1 0
    → empty ≡ cond (not (has_option options)) 1 0
empty_counted cell left options empty are is same =
    same ∙ ap (λ b. cond b 1 0) (empty_is cell options
    (not (left.home_win || left.draw || left.away_win)) is (none_left cell left are)
    (left_none cell left are))

-- and if several are, as several
several_counted : (cell : Cell) (left : OutcomesLeft) (options : List Score) (several : ℕ)
    → AreOutcomesLeft cell left → IsCellOf cell options
    → several ≡ cond (not (at_most_one left.home_win left.draw left.away_win)) 1 0
    → several ≡ cond (not (has_one_outcome options)) 1 0
several_counted cell left options several are is same =
    same ∙ ap (λ b. cond (not b) 1 0) (outcome_is cell options
    (at_most_one left.home_win left.draw left.away_win) is (one_left cell left are)
    (left_one cell left are))

pub move_ranges-requires-clause-low : goal.move_ranges-requires-clause-low
move_ranges-requires-clause-low c = λ club.
    let small =
    (ranges_small c.args.fixtures.now c.requires.ends.0 c.args.ends.now.lows c.args.ends.now.highs
    c.requires.few c.requires.ends.2.ranges club).0 in
    (omega (arith, ints, small.0), omega (arith, ints, small.1))

pub move_ranges-requires-clause-high : goal.move_ranges-requires-clause-high
move_ranges-requires-clause-high c = λ club.
    let small =
    (ranges_small c.args.fixtures.now c.requires.ends.0 c.args.ends.now.lows c.args.ends.now.highs
    c.requires.few c.requires.ends.2.ranges club).1 in
    (omega (arith, ints, small.0), omega (arith, ints, small.1))

pub moved_count-ends-requires-clause-counted : goal.moved_count-ends-requires-clause-counted
moved_count-ends-requires-clause-counted c =
    let options = c.requires.ends.0 in
    let number = c.args.number in
    let within : number < length options = omega (arith, c.requires.ends.1, c.requires.in_range) in
    let same = empty_counted c.args.was.now c.left.result (get_or options number [])
    c.worth-before.result.empty c.left.ensures c.requires.ends.3 c.worth-before.ensures.empty in
    omega (arith, same, empty_counts options number within, c.requires.ends.2.empty)

pub moved_count-ends-requires-2-clause-counted : goal.moved_count-ends-requires-2-clause-counted
moved_count-ends-requires-2-clause-counted c =
    let options = c.requires.ends.0 in
    let number = c.args.number in
    let within : number < length options = omega (arith, c.requires.ends.1, c.requires.in_range) in
    let same = several_counted c.args.was.now c.left.result (get_or options number [])
    c.worth-before.result.several c.left.ensures c.requires.ends.3 c.worth-before.ensures.several in
    omega (arith, same, several_counts options number within, c.requires.ends.2.several)

pub returns : goal.returns
returns c options after many are was_is now_is =
    let number = c.args.number in
    let before = get_or options number [] in
    let within : number < length options = omega (arith, many, c.requires.in_range) in
    let was = c.worth-before in
    let now = c.worth-after in
    let was_empty = empty_counted c.args.was.now c.left.result before was.result.empty
    c.left.ensures was_is was.ensures.empty in
    let now_empty = empty_counted c.args.now.now c.left-2.result after now.result.empty
    c.left-2.ensures now_is now.ensures.empty in
    let was_several = several_counted c.args.was.now c.left.result before was.result.several
    c.left.ensures was_is was.ensures.several in
    let now_several = several_counted c.args.now.now c.left-2.result after now.result.several
    c.left-2.ensures now_is now.ensures.several in
    record {
      ranges = ranges_moved c.args.fixtures.now options number _ c.args.was.now c.args.now.now after
          c.args.ends.now.lows c.move_ranges.new.lows c.args.ends.now.highs c.move_ranges.new.highs
          c.requires.in_range many are.ranges
          (c.move_ranges.ensures c.args.was.now c.args.now.now
          (was.ensures.points c.args.was.now c.left.ensures)
          (now.ensures.points c.args.now.now c.left-2.ensures)) was_is now_is
          c.move_ranges.auto.lows c.move_ranges.auto.highs;
      empty = omega (
        arith,
        c.moved_count-ends.ensures,
        empty_set options number after within,
        are.empty,
        was_empty,
        now_empty,
      );
      several = omega (
        arith,
        c.moved_count-ends-2.ensures,
        several_set options number after within,
        are.several,
        was_several,
        now_several,
      );
    }
