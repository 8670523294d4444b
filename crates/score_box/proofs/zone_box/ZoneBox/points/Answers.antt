-- What the clubs have alone, and what the open matches between them add, is what the set has.
use Rattle.std.proofs.Common.{◌≡◌, List, ℕ, length, ◌*◌, ◌-ℤ◌, ◌≤ℤ◌, pos, true, get_or, slice_index}
use Rattle.std.proofs.Common.{subst, sym, ap, ◌∙◌, arith}
use Rattle.std.proofs.lemmas.Int.{ints}
use Rattle.league_core.specs.game.ClubSets.{clubs_in}
use Rattle.league_core.specs.search.Options.{has_finish, options_in}
use Rattle.league_core.specs.search.PointRanges.{total_of, range_from, points_together}
use Rattle.league_core.specs.search.PointRanges.{least_points_of, most_points_of}
use Rattle.score_box.specs.declared.cell.Cell.{Cell}
use Rattle.score_box.specs.inside.Boxes.{HasOptions}
use Rattle.score_box.specs.inside.Ends.{end_at}
use Rattle.score_box.specs.inside.Points.{IsBeyondOver}
use Rattle.score_box.specs.inside.ZoneBoxViews.{ZoneBoxView}
use Rattle.score_box.proofs.BoxLemmas.{cells_of_season}
use Rattle.score_box.proofs.BeyondLemmas.{lows_are, highs_are, set_end}
use Rattle.score_box.proofs.EndLemmas.{matches_of, ranges_small}
use Rattle.score_box.proofs.SplitLemmas.{unplayed_few, unplayed_in_range, least_end, greatest_end}
use Rattle.score_box.proofs.SetLemmas.{set_small, least_points-is, most_points-is, taken_within}
use Rattle.score_box.proofs.zone_box.ZoneBox.points.Goals as goal

pub alone-alone-requires : goal.alone-alone-requires
alone-alone-requires c =
    let box = c.self.inside in
    let small = ranges_small box.sheet.now.fixtures
    (options_in box.sheet.now box.season.now box.zone.items) box.ends.lows box.ends.highs
    c.self.invariant.league.limits.most_fixtures c.self.invariant.ends_are.ranges in
    record { low = λ club. (small club).0; high = λ club. (small club).1 }

pub beyond-beyond-requires-clause-in_range : goal.beyond-beyond-requires-clause-in_range
beyond-beyond-requires-clause-in_range c i d within =
    let box = c.self.inside in
    let numbers = c.self.invariant.open_fixtures in
    let below = unplayed_in_range box.season.now.scores i d (omega
    (arith, within, ap (λ (ns : List ℕ). length ns) numbers)) in
    omega (
      arith,
      below,
      ap (λ (ns : List ℕ). get_or ns i d) numbers,
      cells_of_season box.sheet.now box.season.now box.zone.items box.cells.items
          c.self.invariant.options,
      ap (λ (cells : List Cell). length cells) c.deref.ensures.value,
    )

pub beyond-beyond-requires-clause-few : goal.beyond-beyond-requires-clause-few
beyond-beyond-requires-clause-few c =
    let box = c.self.inside in
    omega (
      arith,
      ap (λ (ns : List ℕ). length ns) c.self.invariant.open_fixtures,
      unplayed_few box.season.now.scores,
      c.self.invariant.league.of_sheet.scores,
      c.self.invariant.league.limits.most_fixtures,
    )

pub beyond-beyond-requires-clause-some : goal.beyond-beyond-requires-clause-some
beyond-beyond-requires-clause-some c =
    let box = c.self.inside in
    let Some_in_each : List Cell → Type 0 = λ xs. HasOptions xs in
    subst Some_in_each (sym c.deref.ensures.value)
    (options_in box.sheet.now box.season.now box.zone.items, c.self.invariant.options)

-- the ends that the clubs and the matches between them come to
ends_are : (c : goal.After-with)
    → (c.with.result.least
    ≡ (range_from (points_together (clubs_in c.args.set)) c.self.inside.sheet.now.fixtures
    (options_in c.self.inside.sheet.now c.self.inside.season.now
    c.self.inside.zone.items)).least
    -ℤ total_of (λ club. pos (slice_index c.self.inside.season.now.deductions club))
    (clubs_in c.args.set))
    × (c.with.result.most
    ≡ (range_from (points_together (clubs_in c.args.set)) c.self.inside.sheet.now.fixtures
    (options_in c.self.inside.sheet.now c.self.inside.season.now
    c.self.inside.zone.items)).greatest
    -ℤ total_of (λ club. pos (slice_index c.self.inside.season.now.deductions club))
    (clubs_in c.args.set))
ends_are c =
    let box = c.self.inside in
    let sheet = box.sheet.now in
    let season = box.season.now in
    let zone = box.zone.items in
    let options = options_in sheet season zone in
    let clubs = clubs_in c.args.set in
    let matches = matches_of sheet c.self.invariant.league.limits in
    let Finish : ZoneBoxView → Type 0 = λ v. has_finish v.sheet v.season v.zone ≡ true in
    let finish = subst Finish (sym c.self.view_is) c.requires in
    let Over_cells : List Cell → Type 0 = λ cells. IsBeyondOver sheet.fixtures cells
    box.open_matches.numbers.items clubs c.beyond-beyond.result in
    let over = subst Over_cells c.deref.ensures.value
    (c.beyond-beyond.ensures.beyond sheet.fixtures c.self.invariant.open_sides) in
    let least = set_end (λ range. range.least) least_end sheet season zone c.args.set.bits
    box.ends.lows box.open_matches.numbers.items c.alone-alone.result.least
    c.beyond-beyond.result.least c.self.invariant.league finish c.self.invariant.open_fixtures
    (lows_are sheet.fixtures options box.ends.lows box.ends.highs matches
    c.self.invariant.ends_are.ranges)
    (c.alone-alone.ensures.least
    ∙ ap (λ (ds : List ℕ). total_of (λ club. end_at box.ends.lows club -ℤ pos (slice_index ds club))
    clubs) c.deductions.ensures.deductions)
    (over.least options c.self.invariant.options) in
    let most = set_end (λ range. range.greatest) greatest_end sheet season zone c.args.set.bits
    box.ends.highs box.open_matches.numbers.items c.alone-alone.result.most
    c.beyond-beyond.result.most c.self.invariant.league finish c.self.invariant.open_fixtures
    (highs_are sheet.fixtures options box.ends.lows box.ends.highs matches
    c.self.invariant.ends_are.ranges)
    (c.alone-alone.ensures.most
    ∙ ap (λ (ds : List ℕ). total_of
    (λ club. end_at box.ends.highs club -ℤ pos (slice_index ds club)) clubs)
    c.deductions.ensures.deductions)
    (over.most options c.self.invariant.options) in
    (c.with.ensures.least ∙ least, c.with.ensures.most ∙ most)

-- no set has less than nothing, nor more than three of each fixture
small : (c : goal.After-with)
    → (pos 0 ≤ℤ (range_from (points_together (clubs_in c.args.set)) c.self.inside.sheet.now.fixtures
    (options_in c.self.inside.sheet.now c.self.inside.season.now
    c.self.inside.zone.items)).least)
    × ((range_from (points_together (clubs_in c.args.set)) c.self.inside.sheet.now.fixtures
    (options_in c.self.inside.sheet.now c.self.inside.season.now
    c.self.inside.zone.items)).least
    ≤ℤ (range_from (points_together (clubs_in c.args.set)) c.self.inside.sheet.now.fixtures
    (options_in c.self.inside.sheet.now c.self.inside.season.now
    c.self.inside.zone.items)).greatest)
    × ((range_from (points_together (clubs_in c.args.set)) c.self.inside.sheet.now.fixtures
    (options_in c.self.inside.sheet.now c.self.inside.season.now
    c.self.inside.zone.items)).greatest ≤ℤ pos (3 * length c.self.inside.sheet.now.fixtures))
small c =
    let box = c.self.inside in
    set_small c.args.set.bits box.sheet.now.fixtures
    (options_in box.sheet.now box.season.now box.zone.items)
    (matches_of box.sheet.now c.self.invariant.league.limits)

pub returns-clause-least : goal.returns-clause-least
returns-clause-least c =
    let box = c.self.inside in
    let At : ZoneBoxView → Type 0 = λ v. c.with.result.least
    ≡ least_points_of v.sheet v.season v.zone (clubs_in c.args.set) in
    subst At c.self.view_is (least_points-is box.sheet.now box.season.now box.zone.items
    (clubs_in c.args.set) c.with.result.least (ends_are c).0)

pub returns-clause-most : goal.returns-clause-most
returns-clause-most c =
    let box = c.self.inside in
    let At : ZoneBoxView → Type 0 = λ v. c.with.result.most
    ≡ most_points_of v.sheet v.season v.zone (clubs_in c.args.set) in
    subst At c.self.view_is (most_points-is box.sheet.now box.season.now box.zone.items
    (clubs_in c.args.set) c.with.result.most (ends_are c).1)

pub returns-clause-in_order : goal.returns-clause-in_order
returns-clause-in_order c =
    let ends = ends_are c in
    let within = small c in
    omega (arith, ints, ends.0, ends.1, within.1)

pub returns-clause-within : goal.returns-clause-within
returns-clause-within c =
    let ends = ends_are c in
    let within = small c in
    let off = taken_within c.self.inside.season.now c.args.set c.deductions.ensures.within in (
      omega (arith, ints, ends.0, within.0, off.0, off.1),
      omega (
        arith,
        ints,
        ends.1,
        within.2,
        c.self.invariant.league.limits.most_fixtures,
        off.0,
      ),
    )
