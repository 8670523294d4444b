-- The marks of a half of a zone, and that the zones of a tree of proper splits name what the sheet
-- has and leave the question's own club unmarked.
use Rattle.std.proofs.Common.{◌≡◌, ℕ, Bool, true, false, not, ◌&&◌, ◌||◌, ◌==◌, nat_lt, List, []}
use Rattle.std.proofs.Common.{length, refl, ap, ◌∙◌}
use Rattle.std.proofs.Math.Bool.{or-false}
use Rattle.std.proofs.lemmas.Bool.{and_parts, and_from, not-true}
use Rattle.league_core.specs.declared.sheet.Sheet.{Sheet}
use Rattle.league_core.specs.declared.question.Question.{Question}
use Rattle.league_core.specs.declared.zone.Test.{Test}
use Rattle.league_core.specs.declared.zone.Test.TheVariants.{Home, Draw, HomeMost, AwayMost, Rival}
use Rattle.league_core.specs.declared.zone.Literal.{Literal}
use Rattle.league_core.specs.game.Results.{Results}
use Rattle.league_core.specs.search.Zones.{is_of_rival, marked_before, marked_after, is_marked}
use Rattle.league_core.specs.search.Zones.{with_test, is_test_of, is_zone_of, IsZoneFor}
use Rattle.league_core.specs.search.Trees.{Tree, open_leaf, lent_leaf, refuted_leaf, branch}
use Rattle.league_core.specs.search.Trees.{NodesMeet}
use Rattle.league_core.specs.search.Splits.{have_both_finish, is_proper, IsProperNode}
use Rattle.league_core.proofs.HalfLemmas.{list_all-with, before_in_half, after_in_half}

-- a test that is not of the rival leaves its marks
pub before_kept : (zone : List Literal) (test : Test) (holds : Bool) (rival : ℕ)
    → is_of_rival rival test ≡ false
    → marked_before (with_test zone test holds) rival ≡ marked_before zone rival
before_kept zone test holds rival other =
    before_in_half zone test holds rival
    ∙ ap (λ b. marked_before zone rival || (b && holds)) other
    ∙ or-false (marked_before zone rival)

pub after_kept : (zone : List Literal) (test : Test) (holds : Bool) (rival : ℕ)
    → is_of_rival rival test ≡ false
    → marked_after (with_test zone test holds) rival ≡ marked_after zone rival
after_kept zone test holds rival other =
    after_in_half zone test holds rival
    ∙ ap (λ b. marked_after zone rival || (b && not holds)) other
    ∙ or-false (marked_after zone rival)

-- a proper split tests a fixture or a club of the sheet, and not the question's own club
pub proper_names : (sheet : Sheet) (season : Results) (question : Question) (zone : List Literal)
    (test : Test) → is_proper sheet season question zone test ≡ true
    → (is_test_of sheet test ≡ true) × (is_of_rival question.club test ≡ false)
proper_names sheet season question zone (Home fixture) proper = (
  (and_parts (nat_lt fixture (length sheet.fixtures))
      (have_both_finish sheet season zone (Home fixture)) proper).0,
  refl,
)
proper_names sheet season question zone (Draw fixture) proper = (
  (and_parts (nat_lt fixture (length sheet.fixtures))
      (have_both_finish sheet season zone (Draw fixture)) proper).0,
  refl,
)
proper_names sheet season question zone (HomeMost fixture most) proper = (
  (and_parts (nat_lt fixture (length sheet.fixtures))
      (have_both_finish sheet season zone (HomeMost fixture most)) proper).0,
  refl,
)
proper_names sheet season question zone (AwayMost fixture most) proper = (
  (and_parts (nat_lt fixture (length sheet.fixtures))
      (have_both_finish sheet season zone (AwayMost fixture most)) proper).0,
  refl,
)
proper_names sheet season question zone (Rival club) proper =
    let named = (and_parts (nat_lt club (length sheet.clubs) && not (club == question.club))
    (not (is_marked zone club)) proper).0 in
    let parts = and_parts (nat_lt club (length sheet.clubs)) (not (club == question.club)) named in
    (parts.0, not-true (club == question.club) parts.1)

-- so each half of a zone for the question is one too
pub zone_for_half : (sheet : Sheet) (question : Question) (zone : List Literal) (test : Test)
    (holds : Bool) → IsZoneFor sheet question zone → is_test_of sheet test ≡ true
    → is_of_rival question.club test ≡ false → IsZoneFor sheet question (with_test zone test holds)
zone_for_half sheet question zone test holds zone_for of_sheet other = record {
  of_sheet =
      list_all-with (λ literal. is_test_of sheet literal.test) zone test holds
      ∙ and_from (is_zone_of sheet zone) (is_test_of sheet test) zone_for.of_sheet of_sheet;
  of_rivals =
      ap (λ b. not (b || marked_after (with_test zone test holds) question.club))
      (before_kept zone test holds question.club other)
      ∙ ap (λ b. not (marked_before zone question.club || b))
      (after_kept zone test holds question.club other)
      ∙ zone_for.of_rivals;
}

pub zones_for : (sheet : Sheet) (season : Results) (question : Question) (tree : Tree)
    (zone : List Literal) → IsZoneFor sheet question zone
    → NodesMeet (IsProperNode sheet season question) zone tree
    → NodesMeet (λ z node. IsZoneFor sheet question z) zone tree
zones_for sheet season question open_leaf zone zone_for proper = zone_for
zones_for sheet season question (lent_leaf number) zone zone_for proper = zone_for
zones_for sheet season question (refuted_leaf reason fresh) zone zone_for proper = zone_for
zones_for sheet season question (branch test fresh yes_half no_half) zone zone_for proper =
    let names = proper_names sheet season question zone test proper.0 in (
      zone_for,
      zones_for sheet season question yes_half (with_test zone test true)
          (zone_for_half sheet question zone test true zone_for names.0 names.1) proper.1,
      zones_for sheet season question no_half (with_test zone test false)
          (zone_for_half sheet question zone test false zone_for names.0 names.1) proper.2,
    )

-- the zone without a literal is one for any question
pub proper_trees : (sheet : Sheet) (season : Results) (question : Question) (tree : Tree)
    → NodesMeet (IsProperNode sheet season question) [] tree
    → NodesMeet (λ z node. IsZoneFor sheet question z) [] tree
proper_trees sheet season question tree proper =
    zones_for sheet season question tree [] (record { of_sheet = refl; of_rivals = refl }) proper
