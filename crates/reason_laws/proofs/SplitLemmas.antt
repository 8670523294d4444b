-- The halves of a split and the leaves of a tree: which members they have, and what follows for the
-- root.
use Rattle.std.proofs.Common.{◌≡◌, ℕ, Bool, true, false, not, ◌&&◌, ◌||◌, List, []}
use Rattle.std.proofs.Common.{refl, sym, ap, ◌∙◌, inl, inr}
use Rattle.std.specs.Prelude.{◌⊎◌, ◌↔◌}
use Rattle.std.specs.List.{list_any}
use Rattle.std.proofs.lemmas.Bool.{true≢false, and_parts, and_from, or_left, or_right, not-true}
use Rattle.std.proofs.lemmas.Bool.{cases_Bool}
use Rattle.std.proofs.lemmas.List.Folds.{list_any-append}
use Rattle.league_core.specs.declared.sheet.Sheet.{Sheet}
use Rattle.league_core.specs.declared.question.Question.{Question}
use Rattle.league_core.specs.declared.zone.Test.{Test}
use Rattle.league_core.specs.declared.zone.Literal.{Literal}
use Rattle.league_core.specs.game.Results.{Results}
use Rattle.league_core.specs.game.Verdicts.{HasNoExample}
use Rattle.league_core.specs.search.Zones.{is_test_true, is_as_said, is_literal_true}
use Rattle.league_core.specs.search.Zones.{are_literals_true, IsMember, with_test}
use Rattle.league_core.specs.search.GivenVerdicts.{HoldsNowhereIn}
use Rattle.league_core.specs.search.Trees.{Tree, open_leaf, lent_leaf, refuted_leaf, branch}
use Rattle.league_core.specs.search.Trees.{zones_from, zones_of, NodesMeet, IsCover, IsCoverOf}
use Rattle.league_core.proofs.HalfLemmas.{list_all-with}
use Rattle.league_core.proofs.GivenLemmas.{none_at_root}
use Rattle.reason_laws.specs.inside.Splits.{HoldsAtNoLeaf}

-- a half is the zone's literals and what it says of the test
pub true_in_half : (sheet : Sheet) (club : ℕ) (finish : Results) (lots : List ℕ)
    (zone : List Literal) (test : Test) (holds : Bool)
    → are_literals_true sheet club finish lots (with_test zone test holds) ≡
    (are_literals_true sheet club finish lots zone
    && is_as_said holds (is_test_true sheet club finish lots test))
true_in_half sheet club finish lots zone test holds =
    list_all-with (is_literal_true sheet club finish lots) zone test holds

-- a member of the zone is one of the half that says of the test what is so
into_half : (sheet : Sheet) (season : Results) (club : ℕ) (zone : List Literal) (test : Test)
    (holds : Bool) (finish : Results) (lots : List ℕ) → IsMember sheet season club zone finish lots
    → is_as_said holds (is_test_true sheet club finish lots test) ≡ true
    → IsMember sheet season club (with_test zone test holds) finish lots
into_half sheet season club zone test holds finish lots member said = record {
  is_finish = member.is_finish;
  is_drawn = member.is_drawn;
  literals =
      true_in_half sheet club finish lots zone test holds
      ∙ and_from (are_literals_true sheet club finish lots zone)
      (is_as_said holds (is_test_true sheet club finish lots test)) member.literals said;
}

-- a member of a half is one of the zone
out_of_half : (sheet : Sheet) (season : Results) (club : ℕ) (zone : List Literal) (test : Test)
    (holds : Bool) (finish : Results) (lots : List ℕ)
    → IsMember sheet season club (with_test zone test holds) finish lots
    → IsMember sheet season club zone finish lots
    × (is_as_said holds (is_test_true sheet club finish lots test) ≡ true)
out_of_half sheet season club zone test holds finish lots member =
    let parts = and_parts (are_literals_true sheet club finish lots zone) (is_as_said holds
    (is_test_true sheet club finish lots test))
    (sym (true_in_half sheet club finish lots zone test holds) ∙ member.literals) in (
      record { is_finish = member.is_finish; is_drawn = member.is_drawn; literals = parts.0 },
      parts.1,
    )

-- each member of a zone is one of a half
pub either_half : (sheet : Sheet) (season : Results) (club : ℕ) (zone : List Literal) (test : Test)
    (finish : Results) (lots : List ℕ) → IsMember sheet season club zone finish lots
    → IsMember sheet season club (with_test zone test true) finish lots
    ⊎ IsMember sheet season club (with_test zone test false) finish lots
either_half sheet season club zone test finish lots member =
    elim (cases_Bool
    (is_test_true sheet club finish lots test)) as (λ _. IsMember sheet season club
    (with_test zone test true) finish lots
    ⊎ IsMember sheet season club (with_test zone test false) finish lots) [
      | inl holds ↦ inl (into_half sheet season club zone test true finish lots member holds)
      | inr fails ↦ inr
          (into_half sheet season club zone test false finish lots member (ap not fails))
    ]

-- the members of the halves are those of the zone
pub halves_cover : (sheet : Sheet) (season : Results) (club : ℕ) (zone : List Literal)
    (test : Test) (finish : Results) (lots : List ℕ) → IsMember sheet season club zone finish lots
    ↔ (IsMember sheet season club (with_test zone test true) finish lots
    ⊎ IsMember sheet season club (with_test zone test false) finish lots)
halves_cover sheet season club zone test finish lots =
    (either_half sheet season club zone test finish lots, back)
  where
    back : IsMember sheet season club (with_test zone test true) finish lots
        ⊎ IsMember sheet season club (with_test zone test false) finish lots
        → IsMember sheet season club zone finish lots
    back (inl member) = (out_of_half sheet season club zone test true finish lots member).0
    back (inr member) = (out_of_half sheet season club zone test false finish lots member).0

-- no member of one half is one of the other
pub halves_apart : (sheet : Sheet) (season : Results) (club : ℕ) (zone : List Literal)
    (test : Test) (finish : Results) (lots : List ℕ)
    → IsMember sheet season club (with_test zone test true) finish lots
    → IsMember sheet season club (with_test zone test false) finish lots → ⊥
halves_apart sheet season club zone test finish lots member other =
    let is = (out_of_half sheet season club zone test true finish lots member).1 in
    let is_not = (out_of_half sheet season club zone test false finish lots other).1 in
    true≢false (sym is ∙ not-true (is_test_true sheet club finish lots test) is_not)

-- if a zone's literals are true, so are those of one of the leaves below it
pub leaves_from : (sheet : Sheet) (club : ℕ) (finish : Results) (lots : List ℕ) (tree : Tree)
    (zone : List Literal) → are_literals_true sheet club finish lots zone ≡ true
    → list_any (are_literals_true sheet club finish lots) (zones_from zone tree) ≡ true
leaves_from sheet club finish lots open_leaf zone holds =
    or_left (are_literals_true sheet club finish lots zone) false holds
leaves_from sheet club finish lots (lent_leaf number) zone holds =
    or_left (are_literals_true sheet club finish lots zone) false holds
leaves_from sheet club finish lots (refuted_leaf reason fresh) zone holds =
    or_left (are_literals_true sheet club finish lots zone) false holds
leaves_from sheet club finish lots (branch test fresh yes_half no_half) zone holds =
    let within = are_literals_true sheet club finish lots in
    let yes_zones = zones_from (with_test zone test true) yes_half in
    let no_zones = zones_from (with_test zone test false) no_half in
    let passed = is_test_true sheet club finish lots test in
    list_any-append within yes_zones no_zones
    ∙ elim (cases_Bool passed) as (λ _. (list_any within yes_zones || list_any within no_zones)
    ≡ true) [
      | inl passes ↦
          or_left (list_any within yes_zones) (list_any within no_zones)
          (leaves_from sheet club finish lots yes_half (with_test zone test true)
          (true_in_half sheet club finish lots zone test true
          ∙ and_from (within zone) passed holds passes))
      | inr fails ↦
          or_right (list_any within yes_zones) (list_any within no_zones)
          (leaves_from sheet club finish lots no_half (with_test zone test false)
          (true_in_half sheet club finish lots zone test false
          ∙ and_from (within zone) (not passed) holds (ap not fails)))
    ]

pub leaves_cover : (sheet : Sheet) (season : Results) (question : Question) (tree : Tree)
    → IsCover sheet season question (zones_of tree)
leaves_cover sheet season question tree finish lots is_finish is_drawn =
    leaves_from sheet question.club finish lots tree [] refl

pub leaves_cover_zone : (sheet : Sheet) (season : Results) (club : ℕ) (zone : List Literal)
    (tree : Tree) → IsCoverOf sheet season club zone (zones_from zone tree)
leaves_cover_zone sheet season club zone tree finish lots member =
    leaves_from sheet club finish lots tree zone member.literals

-- if the question holds in no leaf's zone, it holds nowhere in the zone of the root
pub leaves_decide : (sheet : Sheet) (season : Results) (question : Question) (tree : Tree)
    (zone : List Literal) → NodesMeet (HoldsAtNoLeaf sheet season question) zone tree
    → HoldsNowhereIn sheet season question zone
leaves_decide sheet season question open_leaf zone facts = facts
leaves_decide sheet season question (lent_leaf number) zone facts = facts
leaves_decide sheet season question (refuted_leaf reason fresh) zone facts = facts
leaves_decide sheet season question (branch test fresh yes_half no_half) zone facts =
    λ finish lots member holds.
    elim (either_half sheet season question.club zone test finish lots member) as (λ _. ⊥) [
      | inl within ↦ leaves_decide sheet season question yes_half
          (with_test zone test true) facts.1 finish lots within holds
      | inr within ↦ leaves_decide sheet season question no_half
          (with_test zone test false) facts.2 finish lots within holds
    ]

pub leaves_show : (sheet : Sheet) (season : Results) (question : Question) (tree : Tree)
    → NodesMeet (HoldsAtNoLeaf sheet season question) [] tree → HasNoExample sheet season question
leaves_show sheet season question tree facts =
    none_at_root sheet season question (leaves_decide sheet season question tree [] facts)
