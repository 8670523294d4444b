-- A club's ends are those of the box.
use mir.Syntax.{w64}
use mir.Val.{to_z, of_z}
use Rattle.std.proofs.Common.{◌≡◌, ◌<◌, pos, ◌+ℤ◌, ◌-ℤ◌, ◌||◌, [], ◌∷◌, length, sym, ap, ◌∙◌, arith}
use Rattle.std.specs.Prelude.{int_lt}
use Rattle.std.proofs.lemmas.Bool.{lt-leb}
use Rattle.std.proofs.lemmas.Int.{ints}
use Rattle.league_core.specs.search.PointRanges.{least_points_of, most_points_of}
use Rattle.flow_bound.specs.inside.Parts.{entry}
use Rattle.flow_bound.proofs.prefilter.may_add.Goals as goal

pub returns : goal.returns
returns c =
    let box = c.args.zone_box.now in
    let club = c.args.club in
    let within : club < length box.sheet.clubs = omega (
      arith,
      c.if-deductions-from.false,
      c.from.ensures,
      ap length c.deductions.ensures.deductions,
      c.season.ensures.of_sheet.deductions,
    ) in
    let left_open = most_points_of box.sheet box.season box.zone (club ∷ [])
    -ℤ least_points_of box.sheet box.season box.zone (club ∷ []) in
    let more : to_z w64 (of_z w64 c.from-2.result) ≡ left_open = omega (
      arith,
      ints,
      c.from-2.ensures,
      c.high.ensures.value,
      c.high.ensures.within.0,
      c.high.ensures.within.1,
      c.low.ensures.value,
      c.low.ensures.within.0,
      c.low.ensures.within.1,
    ) in
    c.is_over_with.ensures
    ∙ ap (λ n. int_lt (pos 0) (entry c.args.alone.now club +ℤ n)) more
    ∙ ap (λ b. b || int_lt (pos 0) (entry c.args.alone.now club +ℤ left_open))
    (sym (lt-leb (length box.sheet.clubs) club within))
