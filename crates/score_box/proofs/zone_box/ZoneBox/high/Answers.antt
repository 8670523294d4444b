-- The club's number is that of its match points, and what is off comes off.
use mir.Syntax.{w32}
use mir.Val.{to_z, of_z}
use Rattle.std.proofs.Common.{◌≡◌, ◌<◌, pos, ◌-ℤ◌, [], ◌∷◌, length, slice_index, subst, ap, ◌∙◌}
use Rattle.std.proofs.Common.{arith}
use Rattle.std.proofs.lemmas.Int.{ints}
use Rattle.league_core.specs.search.Options.{options_in}
use Rattle.league_core.specs.search.PointRanges.{most_points_of}
use Rattle.score_box.specs.inside.Ends.{end_at}
use Rattle.score_box.specs.inside.ZoneBoxViews.{ZoneBoxView}
use Rattle.score_box.proofs.EndLemmas.{ranges_small}
use Rattle.score_box.proofs.zone_box.ZoneBox.high.Goals as goal

pub overflow_sub-result : goal.overflow_sub-result
overflow_sub-result c =
    let box = c.self.inside in
    let small = ranges_small box.sheet.now.fixtures (options_in box.sheet.now box.season.now
    box.zone.items) box.ends.lows box.ends.highs c.self.invariant.league.limits.most_fixtures
    c.self.invariant.ends_are.ranges c.args.club in
    omega (arith, ints, small.1.0, small.1.1, c.from-off.ensures, c.deducted.type_inv)

pub returns-clause-value : goal.returns-clause-value
unfolding most_points_of
returns-clause-value c =
    let box = c.self.inside in
    let club = c.args.club in
    let options = options_in box.sheet.now box.season.now box.zone.items in
    let small = ranges_small box.sheet.now.fixtures options box.ends.lows box.ends.highs
    c.self.invariant.league.limits.most_fixtures c.self.invariant.ends_are.ranges club in
    let below : club < 24 = omega (
      arith,
      c.requires.in_range,
      ap (λ (s : ZoneBoxView). length s.sheet.clubs) c.self.view_is,
      c.self.invariant.league.limits.most_clubs,
    ) in
    let fits : to_z w32 (of_z w32 (to_z w32 (of_z w32 (end_at box.ends.highs club)) -ℤ to_z w32
    (of_z w32 c.from-off.result))) ≡ end_at box.ends.highs club -ℤ c.from-off.result =
    omega (arith, ints, small.1.0, small.1.1, c.from-off.ensures, c.deducted.type_inv) in
    let off : c.from-off.result ≡ pos (slice_index box.season.now.deductions club) =
    c.from-off.ensures ∙ ap pos c.deducted.ensures in
    let is : to_z w32 (of_z w32 (to_z w32 (of_z w32 (end_at box.ends.highs club)) -ℤ to_z w32
    (of_z w32 c.from-off.result)))
    ≡ most_points_of box.sheet.now box.season.now box.zone.items (club ∷ []) =
    omega (arith, ints, fits, off, c.self.invariant.ends_are.ranges.most club below) in
    let At : ZoneBoxView → Type 0 = λ v. to_z w32 (of_z w32 (to_z w32 (of_z w32
    (end_at box.ends.highs club)) -ℤ to_z w32 (of_z w32 c.from-off.result)))
    ≡ most_points_of v.sheet v.season v.zone (club ∷ []) in
    subst At c.self.view_is is

pub returns-clause-within : goal.returns-clause-within
returns-clause-within c =
    let box = c.self.inside in
    let small = ranges_small box.sheet.now.fixtures (options_in box.sheet.now box.season.now
    box.zone.items) box.ends.lows box.ends.highs c.self.invariant.league.limits.most_fixtures
    c.self.invariant.ends_are.ranges c.args.club in (
      omega (arith, ints, small.1.0, small.1.1, c.from-off.ensures, c.deducted.type_inv),
      omega (arith, ints, small.1.0, small.1.1, c.from-off.ensures, c.deducted.type_inv),
    )
