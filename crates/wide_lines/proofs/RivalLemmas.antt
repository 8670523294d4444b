-- Who a near reason is by: a rival that the zone marks, so that a test of the zone names it.
use Rattle.std.proofs.Common.{◌≡◌, ℕ, Bool, true, not, ◌&&◌, List, [], ◌∷◌}
use Rattle.std.proofs.Common.{refl, ◌∙◌, subst, inl, inr}
use Rattle.std.specs.List.{list_all, list_any}
use Rattle.std.proofs.lemmas.Bool.{and_parts, and_from, or_cases, or_left, or_right, eqb-true}
use Rattle.std.proofs.lemmas.Bool.{false≢true}
use Rattle.league_core.specs.declared.sheet.Sheet.{Sheet}
use Rattle.league_core.specs.declared.question.Question.{Question}
use Rattle.league_core.specs.declared.zone.Test.{Test}
use Rattle.league_core.specs.declared.zone.Test.TheVariants.{Home, Draw, HomeMost, AwayMost, Rival}
use Rattle.league_core.specs.declared.zone.Literal.{Literal}
use Rattle.league_core.specs.game.Results.{Results}
use Rattle.league_core.specs.search.Zones.{is_of_rival, is_marked, marked_before, marked_after}
use Rattle.league_core.specs.search.Zones.{with_test}
use Rattle.league_core.specs.search.Options.{has_finish}
use Rattle.league_core.specs.search.PointRanges.{own_most, own_least}
use Rattle.league_core.proofs.HalfLemmas.{list_all-with}
use Rattle.near_laws.specs.Near.{has_near_reason, refutes_by_near, is_pressed_from_behind}
use Rattle.near_laws.specs.Near.{is_pressed_from_ahead, cannot_both_have}
use Rattle.cert_text.specs.TreeLines.{is_test_for}

-- the zone marks the rival
near_marks : (sheet : Sheet) (season : Results) (question : Question) (zone : List Literal)
    (rival : ℕ) → has_near_reason sheet season question zone rival ≡ true
    → is_marked zone rival ≡ true
unfolding has_near_reason
near_marks sheet season question zone rival holds =
    let behind = is_pressed_from_behind sheet season question zone rival in
    let ahead = is_pressed_from_ahead sheet season question zone rival in
    let not_behind = cannot_both_have sheet season zone (own_most sheet season question zone)
    question.club rival in
    let not_ahead = cannot_both_have sheet season zone (own_least sheet season question zone)
    question.club rival in
    let says = (and_parts (has_finish sheet season zone)
    (refutes_by_near sheet season question zone rival) holds).1 in
    elim (or_cases (behind && not_behind) (ahead && not_ahead) says) [
      | inl it ↦ or_right (marked_before zone rival) (marked_after zone rival)
          (and_parts (marked_after zone rival) _ (and_parts behind not_behind it).0).0
      | inr it ↦ or_left (marked_before zone rival) (marked_after zone rival)
          (and_parts (marked_before zone rival) _ (and_parts ahead not_ahead it).0).0
    ]

-- a rival that a test names is the test's
named_by : (test : Test) (rival : ℕ) → is_of_rival rival test ≡ true → test ≡ Rival rival
named_by (Home fixture) rival is = absurd (false≢true is)
named_by (Draw fixture) rival is = absurd (false≢true is)
named_by (HomeMost fixture most) rival is = absurd (false≢true is)
named_by (AwayMost fixture most) rival is = absurd (false≢true is)
named_by (Rival club) rival is =
    let P : ℕ → Type 0 = λ it. Rival club ≡ Rival it in
    subst P (eqb-true club rival is) refl

-- what each test of a zone passes, the test by a rival that the zone marks does
pub marked_passes : (passes : Test → Bool) (side : Literal → Bool) (zone : List Literal) (rival : ℕ)
    → list_all (λ it. passes it.test) zone ≡ true
    → list_any (λ it. is_of_rival rival it.test && side it) zone ≡ true
    → passes (Rival rival) ≡ true
marked_passes passes side [] rival all any = absurd (false≢true any)
marked_passes passes side (literal ∷ zone) rival all any =
    let parts = and_parts (passes literal.test) (list_all (λ it. passes it.test) zone) all in
    elim (or_cases (is_of_rival rival literal.test && side literal)
    (list_any (λ it. is_of_rival rival it.test && side it) zone) any) [
      | inl here ↦
          let P : Test → Type 0 = λ it. passes it ≡ true in
          subst P (named_by literal.test rival
          (and_parts (is_of_rival rival literal.test) (side literal) here).0) parts.0
      | inr later ↦ marked_passes passes side zone rival parts.1 later
    ]

-- so a tree for the question may split by the rival of a near reason that holds
pub near_rival_fits : (sheet : Sheet) (season : Results) (question : Question)
    (zone : List Literal) (rival : ℕ)
    → list_all (λ it. is_test_for sheet question it.test) zone ≡ true
    → has_near_reason sheet season question zone rival ≡ true
    → is_test_for sheet question (Rival rival) ≡ true
near_rival_fits sheet season question zone rival tests holds =
    elim (or_cases (marked_before zone rival) (marked_after zone rival)
    (near_marks sheet season question zone rival holds)) [
      | inl marked ↦ marked_passes (is_test_for sheet question) (λ it. it.yes) zone rival tests
          marked
      | inr marked ↦ marked_passes (is_test_for sheet question) (λ it. not it.yes) zone rival tests
          marked
    ]

-- the tests of a zone and one more
pub tests_with : (sheet : Sheet) (question : Question) (zone : List Literal) (test : Test)
    (holds : Bool) → list_all (λ it. is_test_for sheet question it.test) zone ≡ true
    → is_test_for sheet question test ≡ true
    → list_all (λ it. is_test_for sheet question it.test) (with_test zone test holds) ≡ true
tests_with sheet question zone test holds tests fits =
    list_all-with (λ it. is_test_for sheet question it.test) zone test holds
    ∙ and_from (list_all (λ it. is_test_for sheet question it.test) zone)
    (is_test_for sheet question test) tests fits
