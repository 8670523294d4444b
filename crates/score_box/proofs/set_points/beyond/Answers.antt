-- The match adds what it leaves both its clubs beyond what it leaves each; those up to the next one
-- that counts add nothing.
use Rattle.std.proofs.Common.{◌≡◌, ℕ, ◌<◌, ◌+◌, ◌&&◌, false, pos, cond, List, length}
use Rattle.std.proofs.Common.{get_or, take, subst, refl, sym, ap, ◌∙◌, arith}
use Rattle.std.proofs.lemmas.Int.{ints}
use Rattle.std.proofs.lemmas.List.{take_all, get_or_default}
use Rattle.league_core.specs.declared.sheet.Fixture.{Fixture}
use Rattle.league_core.specs.game.ClubSets.{clubs_in}
use Rattle.league_core.specs.game.Sums.{has_club}
use Rattle.score_box.specs.declared.cell.Cell.{Cell}
use Rattle.score_box.specs.inside.OpenSides.{AreSidesOf}
use Rattle.score_box.specs.inside.Points.{IsBeyondOver, beyond_sides}
use Rattle.score_box.proofs.BeyondLemmas.{beyond_more, beyond_past}
use Rattle.score_box.proofs.SplitLemmas.{no_match}
use Rattle.score_box.proofs.set_points.beyond.Goals as goal

pub with-points-requires-clause-least : goal.with-points-requires-clause-least
with-points-requires-clause-least c =
    let near = c.loop-place.invariant.near_least in
    let within = c.loop-place.invariant.within in (
      omega (arith, ints, near.0, within, c.requires.few),
      omega (arith, ints, near.1, within, c.requires.few),
    )

pub with-points-requires-clause-most : goal.with-points-requires-clause-most
with-points-requires-clause-most c =
    let near = c.loop-place.invariant.near_most in
    let within = c.loop-place.invariant.within in (
      omega (arith, ints, near.0, within, c.requires.few),
      omega (arith, ints, near.1, within, c.requires.few),
    )

pub loop-place-init : goal.loop-place-init
loop-place-init c =
    let next = c.next_among-place in
    let many = c.requires.many in
    record {
      within = omega (arith, next.ensures.within, many);
      found = λ below. next.ensures.found (omega (arith, below, many));
      beyond = λ fixtures sides. beyond_past fixtures c.args.cells.now
          c.args.open_matches.now.numbers.items c.args.open_matches.now.sides.items c.args.set 0
          next.result (record { least = pos 0; most = pos 0 }) (omega arith)
          (omega (arith, next.ensures.within, many)) sides next.ensures.before
          (record { least = λ options are. refl; most = λ options are. refl });
      near_least = (omega (arith, ints), omega (arith, ints));
      near_most = (omega (arith, ints), omega (arith, ints));
    }

abbrev blank : Cell
blank = record {
  home_win = false;
  draw = false;
  away_win = false;
  home_least = 0;
  home_most = 0;
  away_least = 0;
  away_most = 0;
}

-- what the matches come to when the one of the place is counted
counted : (c : goal.After-next_among-place-in-loop-place) → (fixtures : List Fixture)
    → AreSidesOf fixtures c.args.open_matches.now.numbers.items
    c.args.open_matches.now.sides.items
    → IsBeyondOver fixtures c.args.cells.now
    (take (c.loop-place.place + 1) c.args.open_matches.now.numbers.items) (clubs_in c.args.set)
    c.with-points.result
counted c fixtures sides =
    let place = c.loop-place.place in
    let numbers = c.args.open_matches.now.numbers.items in
    let cells = c.args.cells.now in
    let long = c.args.open_matches.now.numbers.ok.0 in
    let test = c.loop-place-test.true in
    let within : place < length numbers = omega (arith, test, c.len.ensures, long) in
    let number = c.index.result.now in
    let number_is : number ≡ get_or numbers place 0 =
    c.index.ensures ∙ get_or_default numbers place number 0 within in
    let match = get_or fixtures (get_or numbers place 0) no_match in
    let both = c.loop-place.invariant.found within match (λ d. sides.each place d within)
    in
    let in_cells = c.requires.in_range place 0 within in
    beyond_more fixtures cells numbers (clubs_in c.args.set) place number blank c.loop-place.points
    c.with-points.result c.beyond.result within number_is (omega (arith, in_cells, number_is))
    (c.loop-place.invariant.beyond fixtures sides)
    (λ options is.
    let adds = c.beyond.ensures.beyond (get_or cells number blank) options c.left-left.ensures is in
    let has = ap (λ n. has_club (clubs_in c.args.set) (get_or fixtures n no_match).home
    && has_club (clubs_in c.args.set) (get_or fixtures n no_match).away) number_is ∙ both in (
      adds.0 ∙ ap (λ b. cond b (beyond_sides (λ range. range.least) options) (pos 0)) (sym has),
      adds.1 ∙ ap (λ b. cond b (beyond_sides (λ range. range.greatest) options) (pos 0)) (sym has),
    )) c.with-points.ensures.least c.with-points.ensures.most

pub loop-place-preserved : goal.loop-place-preserved
loop-place-preserved c =
    let place = c.loop-place.place in
    let numbers = c.args.open_matches.now.numbers.items in
    let next = c.next_among-place-in-loop-place in
    let many = c.requires.many in
    let low = c.loop-place.invariant.near_least in
    let high = c.loop-place.invariant.near_most in
    let near = c.beyond.ensures.near (get_or c.args.cells.now c.index.result.now blank)
    c.left-left.ensures in
    let from = next.ensures.from in
    let least = c.with-points.ensures.least in
    let most = c.with-points.ensures.most in
    record {
      within = omega (arith, next.ensures.within, many);
      found = λ below. next.ensures.found (omega (arith, below, many));
      beyond = λ fixtures sides. beyond_past fixtures c.args.cells.now numbers
          c.args.open_matches.now.sides.items c.args.set (place + 1) next.result
          c.with-points.result from (omega (arith, next.ensures.within, many)) sides
          next.ensures.before (counted c fixtures sides);
      near_least = (
        omega (arith, ints, low.0, near.0.0, least, from),
        omega (arith, ints, low.1, near.0.1, least, from),
      );
      near_most = (
        omega (arith, ints, high.0, near.1.0, most, from),
        omega (arith, ints, high.1, near.1.1, most, from),
      );
    }

pub returns-clause-beyond : goal.returns-clause-beyond
returns-clause-beyond c fixtures sides =
    let numbers = c.args.open_matches.now.numbers.items in
    let Over : List ℕ → Type 0 = λ ns. IsBeyondOver fixtures c.args.cells.now ns
    (clubs_in c.args.set) c.loop-place.points in
    let long = c.args.open_matches.now.numbers.ok.0 in
    subst Over (take_all c.loop-place.place numbers
    (let past = c.loop-place-test.false in omega (arith, past, c.len.ensures, long)))
    (c.loop-place.invariant.beyond fixtures sides)
