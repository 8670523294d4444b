-- A rival by which the near reason holds is pressed, and a pressed rival is one of the sheet.
use Rattle.std.proofs.Common.{◌≡◌, ℕ, ◌<◌, Bool, true, false, not, ◌&&◌, int_le, List, []}
use Rattle.std.proofs.Common.{◌∷◌, inl, inr, length, refl, arith}
use Rattle.std.proofs.lemmas.Bool.{false≢true, or_cases, or_left, or_right, and_parts, ltb-true}
use Rattle.std.proofs.lemmas.Bool.{eqb-true}
use Rattle.std.specs.List.{list_any}
use Rattle.league_core.specs.declared.sheet.Sheet.{Sheet}
use Rattle.league_core.specs.declared.question.Question.{Question}
use Rattle.league_core.specs.declared.zone.Test.{Test}
use Rattle.league_core.specs.declared.zone.Test.TheVariants.{Home, Draw, HomeMost, AwayMost, Rival}
use Rattle.league_core.specs.declared.zone.Literal.{Literal}
use Rattle.league_core.specs.search.Options.{has_finish}
use Rattle.league_core.specs.search.PointRanges.{least_points_of, most_points_of, own_most}
use Rattle.league_core.specs.search.PointRanges.{own_least}
use Rattle.league_core.specs.search.Zones.{is_of_rival, is_test_of, is_zone_of, marked_before}
use Rattle.league_core.specs.search.Zones.{marked_after}
use Rattle.near_laws.specs.Near.{has_near_reason, refutes_by_near, cannot_both_have}
use Rattle.near_laws.specs.Near.{is_pressed_from_behind, is_pressed_from_ahead}
use Rattle.score_box.specs.inside.ZoneBoxViews.{ZoneBoxView}
use Rattle.near_box.specs.inside.Pressed.{is_pressed_in}

-- a test of a rival that is one of the sheet's
test_of_sheet : (sheet : Sheet) (rival : ℕ) (test : Test) → is_test_of sheet test ≡ true
    → is_of_rival rival test ≡ true → rival < length sheet.clubs
test_of_sheet sheet rival (Home fixture) of_sheet of_rival = absurd (false≢true of_rival)
test_of_sheet sheet rival (Draw fixture) of_sheet of_rival = absurd (false≢true of_rival)
test_of_sheet sheet rival (HomeMost fixture most) of_sheet of_rival = absurd (false≢true of_rival)
test_of_sheet sheet rival (AwayMost fixture most) of_sheet of_rival = absurd (false≢true of_rival)
test_of_sheet sheet rival (Rival club) of_sheet of_rival =
    let within : club < length sheet.clubs = ltb-true club (length sheet.clubs) of_sheet in
    let same : club ≡ rival = eqb-true club rival of_rival in
    omega (arith, within, same)

-- a rival of which a zone of the sheet says something
named_of_sheet : (sheet : Sheet) (rival : ℕ) (says : Literal → Bool) (zone : List Literal)
    → is_zone_of sheet zone ≡ true
    → list_any (λ literal. is_of_rival rival literal.test && says literal) zone ≡ true
    → rival < length sheet.clubs
named_of_sheet sheet rival says [] of_sheet named = absurd (false≢true named)
named_of_sheet sheet rival says (literal ∷ zone) of_sheet named =
    let both = and_parts (is_test_of sheet literal.test) (is_zone_of sheet zone) of_sheet in
    elim (or_cases (is_of_rival rival literal.test && says literal)
    (list_any (λ more. is_of_rival rival more.test && says more) zone) named)
    as (λ _. rival < length sheet.clubs) [
      | inl here ↦ test_of_sheet sheet rival literal.test both.0
          (and_parts (is_of_rival rival literal.test) (says literal) here).0
      | inr later ↦ named_of_sheet sheet rival says zone both.1 later
    ]

pub before_of_sheet : (sheet : Sheet) (zone : List Literal) (rival : ℕ)
    → is_zone_of sheet zone ≡ true → marked_before zone rival ≡ true → rival < length sheet.clubs
before_of_sheet sheet zone rival of_sheet marked =
    named_of_sheet sheet rival (λ literal. literal.yes) zone of_sheet marked

pub after_of_sheet : (sheet : Sheet) (zone : List Literal) (rival : ℕ)
    → is_zone_of sheet zone ≡ true → marked_after zone rival ≡ true → rival < length sheet.clubs
after_of_sheet sheet zone rival of_sheet marked =
    named_of_sheet sheet rival (λ literal. not literal.yes) zone of_sheet marked

pub pressed_of_sheet : (box : ZoneBoxView) (question : Question) (rival : ℕ)
    → is_zone_of box.sheet box.zone ≡ true → is_pressed_in box question rival ≡ true
    → rival < length box.sheet.clubs
pressed_of_sheet box question rival of_sheet pressed =
    elim (or_cases (is_pressed_from_behind box.sheet box.season question box.zone rival)
    (is_pressed_from_ahead box.sheet box.season question box.zone rival) pressed)
    as (λ _. rival < length box.sheet.clubs) [
      | inl behind ↦ after_of_sheet box.sheet box.zone rival of_sheet
          (and_parts (marked_after box.zone rival)
          (int_le (own_most box.sheet box.season question box.zone)
          (least_points_of box.sheet box.season box.zone (rival ∷ []))) behind).0
      | inr ahead ↦ before_of_sheet box.sheet box.zone rival of_sheet
          (and_parts (marked_before box.zone rival)
          (int_le (most_points_of box.sheet box.season box.zone (rival ∷ []))
          (own_least box.sheet box.season question box.zone)) ahead).0
    ]

-- the reason presses its rival
near_presses : (box : ZoneBoxView) (question : Question) (rival : ℕ)
    → has_near_reason box.sheet box.season question box.zone rival ≡ true
    → is_pressed_in box question rival ≡ true
unfolding has_near_reason
near_presses box question rival near =
    let behind = is_pressed_from_behind box.sheet box.season question box.zone rival in
    let ahead = is_pressed_from_ahead box.sheet box.season question box.zone rival in
    let from_behind = cannot_both_have box.sheet box.season box.zone
    (own_most box.sheet box.season question box.zone) question.club rival in
    let from_ahead = cannot_both_have box.sheet box.season box.zone
    (own_least box.sheet box.season question box.zone) question.club rival in
    let refutes = (and_parts (has_finish box.sheet box.season box.zone)
    (refutes_by_near box.sheet box.season question box.zone rival) near).1 in
    elim (or_cases (behind && from_behind) (ahead && from_ahead) refutes)
    as (λ _. is_pressed_in box question rival ≡ true) [
      | inl first ↦ or_left behind ahead (and_parts behind from_behind first).0
      | inr second ↦ or_right behind ahead (and_parts ahead from_ahead second).0
    ]

-- no reason by a rival that is not pressed, and none by one of the sheet: none at all
pub no_near : (box : ZoneBoxView) (question : Question) (rival : ℕ)
    → (is_pressed_in box question rival ≡ true
    → has_near_reason box.sheet box.season question box.zone rival ≡ false)
    → has_near_reason box.sheet box.season question box.zone rival ≡ false
no_near box question rival none =
    by (has_near_reason box.sheet box.season question box.zone rival)
    (λ near. none (near_presses box question rival near))
  where
    by : (near : Bool) → (near ≡ true → near ≡ false) → near ≡ false
    by true follows = follows refl
    by false follows = refl
