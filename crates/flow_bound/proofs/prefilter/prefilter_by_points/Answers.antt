-- A club that may not add anything has no more than nothing, with all its pairs and alone.
use Rattle.std.proofs.Common.{◌≡◌, ℤ, pos, ◌+ℤ◌, ◌-ℤ◌, ◌≤ℤ◌, Bool, true, false, ◌&&◌, ◌||◌}
use Rattle.std.proofs.Common.{[], ◌∷◌, length, sym, ap, subst, ◌∙◌, arith}
use Rattle.std.specs.Prelude.{int_lt, nat_le}
use Rattle.std.proofs.lemmas.Int.{ints}
use Rattle.std.proofs.lemmas.Bool.{and_parts, false≢true}
use Rattle.league_core.specs.game.Results.{Results}
use Rattle.league_core.specs.search.PointRanges.{least_points_of, most_points_of}
use Rattle.league_core.specs.game.Sheets.{IsWithinLimits}
use Rattle.flow_bound.specs.declared.cut.Cut.TheVariants.{Floor}
use Rattle.flow_bound.specs.inside.Fixtures.{may_add, pairs_in}
use Rattle.flow_bound.specs.inside.Parts.{entry, side_of}
use Rattle.flow_bound.proofs.OpenLemmas.{pairs_open}
use Rattle.flow_bound.proofs.SetLemmas.{side_of-lt}
use Rattle.flow_bound.proofs.SpareLemmas.{KeepsExcess-spare}
use Rattle.flow_bound.proofs.prefilter.prefilter_by_points.Goals as goal

-- a test that fails, of a club of the sheet
below : (past : Bool) (number : ℤ) → (past || int_lt (pos 0) number) ≡ false → number ≤ℤ pos 0
below true number is = absurd (false≢true (sym is))
below false number is = grind (arith, ints)

-- a club of the set that is not kept fails it
fails : (kept set may : Bool) → kept ≡ (set && may) → set ≡ true → kept ≡ false → may ≡ false
fails kept set may is among out = ap (λ b. b && may) (sym among) ∙ sym is ∙ out

pub returns-clause-kept : goal.returns-clause-kept
returns-clause-kept c cut =
    let box = c.args.zone_box.now in
    let whole = side_of c.args.marked in
    let kept = side_of c.may_add_among.result in
    KeepsExcess-spare c.args.alone.now (pairs_in cut box) whole kept
    (λ club among. (and_parts (whole club) (may_add box c.args.alone.now club)
    (sym (c.may_add_among.ensures club) ∙ among)).0)
    (side_of-lt c.args.marked)
    (λ club among out.
    let left_open = most_points_of box.sheet box.season box.zone (club ∷ [])
    -ℤ least_points_of box.sheet box.season box.zone (club ∷ []) in
    let least = below (nat_le (length box.sheet.clubs) club)
    (entry c.args.alone.now club +ℤ left_open)
    (fails (kept club) (whole club) (may_add box c.args.alone.now club)
    (c.may_add_among.ensures club) among out) in
    let pairs = pairs_open cut box whole club
    (subst IsWithinLimits c.sheet-sheet.ensures.sheet c.sheet-sheet.ensures.limits)
    c.requires.has_finish
    (sym (ap (λ (s : Results). length s.scores) c.season-season.ensures.season)
    ∙ c.season-season.ensures.of_sheet.scores) in
    omega (arith, ints, least, pairs))

pub returns-clause-low : goal.returns-clause-low
returns-clause-low c club among out =
    let box = c.args.zone_box.now in
    let whole = side_of c.args.marked in
    let kept = side_of c.may_add_among.result in
    let left_open = most_points_of box.sheet box.season box.zone (club ∷ [])
    -ℤ least_points_of box.sheet box.season box.zone (club ∷ []) in
    let least = below (nat_le (length box.sheet.clubs) club)
    (entry c.args.alone.now club +ℤ left_open)
    (fails (kept club) (whole club) (may_add box c.args.alone.now club)
    (c.may_add_among.ensures club) among out) in
    let pairs = pairs_open Floor box whole club
    (subst IsWithinLimits c.sheet-sheet.ensures.sheet c.sheet-sheet.ensures.limits)
    c.requires.has_finish
    (sym (ap (λ (s : Results). length s.scores) c.season-season.ensures.season)
    ∙ c.season-season.ensures.of_sheet.scores) in
    omega (arith, ints, least, pairs)
