-- A number more adds what its cell leaves.
use Rattle.std.proofs.Common.{ℕ, ◌<◌, List, [], ◌∷◌, ◌+ℤ◌, length, get_or, ap, ◌∙◌, arith}
use Rattle.std.proofs.lemmas.Int.{ints}
use Rattle.std.proofs.lemmas.List.{take_all}
use Rattle.league_core.specs.search.PointRanges.{total_of}
use Rattle.score_box.specs.inside.Ends.{end_at}
use Rattle.score_box.specs.inside.Points.{left_to}
use Rattle.score_box.proofs.EndLemmas.{one_small}
use Rattle.score_box.proofs.SplitLemmas.{no_match, total_take}
use Rattle.score_box.proofs.ends.add_left.Goals as goal

pub loop-i-init : goal.loop-i-init
loop-i-init c = (
  λ options are club. (omega (arith, ints), omega (arith, ints)),
  λ club.
      let low = c.requires.low club in (omega (arith, ints, low.0), omega (arith, ints, low.1)),
  λ club.
      let high = c.requires.high club in
      (omega (arith, ints, high.0), omega (arith, ints, high.1)),
)

pub move_ranges-requires-clause-low : goal.move_ranges-requires-clause-low
move_ranges-requires-clause-low c = λ club.
    let low = c.loop-i.invariant.1 club in (
      omega (arith, ints, low.0),
      omega (arith, ints, low.1, c.requires.few, c.loop-i-test.true),
    )

pub move_ranges-requires-clause-high : goal.move_ranges-requires-clause-high
move_ranges-requires-clause-high c = λ club.
    let high = c.loop-i.invariant.2 club in (
      omega (arith, ints, high.0),
      omega (arith, ints, high.1, c.requires.few, c.loop-i-test.true),
    )

pub loop-i-preserved : goal.loop-i-preserved
loop-i-preserved c =
    let i = c.loop-i.i in
    let fixtures = c.args.fixtures.now in
    let numbers = c.args.numbers.now in
    let number = get_or numbers i 0 in
    let within : i < length numbers = c.loop-i-test.true in
    let in_fixtures : number < length fixtures = c.requires.in_range i 0 within in
    let in_cells : number < length c.args.cells.now = omega
    (arith, in_fixtures, c.requires.many) in
    let moves = c.move_ranges.ensures c.none-empty.result _
    (c.worth-none.ensures.points c.none-empty.result c.of.ensures)
    (c.worth.ensures.points _ c.left-left.ensures) in
    let some = c.requires.some in (
      λ options are club.
          let move = moves club [] (get_or options number []) c.none-empty.ensures
          (are.each number _ in_cells) in
          let so_far = c.loop-i.invariant.0 options are club in
          let low = total_take (λ k. (left_to (club ∷ []) fixtures options k).least) numbers i 0
          within in
          let high = total_take (λ k. (left_to (club ∷ []) fixtures options k).greatest) numbers i 0
          within in
          (omega (arith, ints, move.0, so_far.0, low), omega (arith, ints, move.1, so_far.1, high)),
      λ club.
          let move = moves club [] (get_or some.0 number []) c.none-empty.ensures
          (some.1.each number _ in_cells) in
          let small = one_small club (get_or fixtures number no_match) (get_or some.0 number []) in
          let low = c.loop-i.invariant.1 club in (
            omega (arith, ints, move.0, small.0.0, low.0),
            omega (arith, ints, move.0, small.0.1, low.1),
          ),
      λ club.
          let move = moves club [] (get_or some.0 number []) c.none-empty.ensures
          (some.1.each number _ in_cells) in
          let small = one_small club (get_or fixtures number no_match) (get_or some.0 number []) in
          let high = c.loop-i.invariant.2 club in (
            omega (arith, ints, move.1, small.1.0, high.0),
            omega (arith, ints, move.1, small.1.1, high.1),
          ),
    )

pub returns : goal.returns
returns c options are club =
    let so_far = c.loop-i.invariant.0 options are club in
    let all = take_all c.loop-i.i c.args.numbers.now c.loop-i-test.false in
    let fixtures = c.args.fixtures.now in (
      so_far.0
          ∙ ap (λ (ns : List ℕ). end_at c.args.lows.now club
          +ℤ total_of (λ k. (left_to (club ∷ []) fixtures options k).least) ns) all,
      so_far.1
          ∙ ap (λ (ns : List ℕ). end_at c.args.highs.now club
          +ℤ total_of (λ k. (left_to (club ∷ []) fixtures options k).greatest) ns) all,
    )
