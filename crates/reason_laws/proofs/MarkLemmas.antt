-- How many rivals a zone leaves unmarked: a test of a score marks none, a proper one of a rival
-- one.
use Rattle.std.proofs.Common.{◌≡◌, ℕ, ◌+◌, ◌<◌, Bool, true, false, not, ◌&&◌, ◌||◌, ◌==◌, nat_lt}
use Rattle.std.proofs.Common.{List, [], length, refl, sym, ap, ◌∙◌, inl, inr, arith}
use Rattle.std.proofs.lemmas.Bool.{false≢true, and_parts, not-true, eq-eqb, ne_eqb, cases_eq}
use Rattle.std.proofs.lemmas.Bool.{ltb-true}
use Rattle.std.proofs.lemmas.List.Sums.{length-filter}
use Rattle.league_core.specs.declared.sheet.Sheet.{Sheet}
use Rattle.league_core.specs.declared.question.Question.{Question}
use Rattle.league_core.specs.declared.zone.Test.{Test}
use Rattle.league_core.specs.declared.zone.Test.TheVariants.{Home, Draw, HomeMost, AwayMost, Rival}
use Rattle.league_core.specs.declared.zone.Literal.{Literal}
use Rattle.league_core.specs.game.Results.{Results}
use Rattle.league_core.specs.game.Sheets.{clubs_of}
use Rattle.league_core.specs.search.Zones.{is_of_score, is_of_rival, marked_before, marked_after}
use Rattle.league_core.specs.search.Zones.{is_marked, rivals_of, with_test}
use Rattle.league_core.specs.search.Splits.{is_proper}
use Rattle.league_core.proofs.OthersLemmas.{length-others_of}
use Rattle.league_core.proofs.HalfLemmas.{no_rival, before_in_half, after_in_half}
use Rattle.reason_laws.specs.inside.Weights.{unmarked_in}
use Rattle.reason_laws.proofs.HalfMarkLemmas.{before_kept, after_kept}
use Rattle.reason_laws.proofs.CountLemmas.{count_by-one}
use Rattle.league_core.proofs.plain.Counts.{count_by-parts, count_by-filter, count_by-agree}
use Rattle.league_core.proofs.plain.Filters.{filter-true}

pub marks_kept : (zone : List Literal) (test : Test) (holds : Bool) (rival : ℕ)
    → is_of_score test ≡ true
    → (marked_before (with_test zone test holds) rival ≡ marked_before zone rival)
    × (marked_after (with_test zone test holds) rival ≡ marked_after zone rival)
marks_kept zone test holds rival of_score = (
  before_kept zone test holds rival
      (no_rival test rival of_score),
  after_kept zone test holds rival
      (no_rival test rival of_score),
)

-- a half marks what the zone marks, and the rival of its test
marked_in_half : (zone : List Literal) (test : Test) (holds : Bool) (rival : ℕ)
    → is_marked (with_test zone test holds) rival ≡ (is_marked zone rival || is_of_rival rival test)
marked_in_half zone test holds rival =
    ap (λ b. b || marked_after (with_test zone test holds) rival)
    (before_in_half zone test holds rival)
    ∙ ap (λ b. (marked_before zone rival || (is_of_rival rival test && holds)) || b)
    (after_in_half zone test holds rival)
    ∙ together (marked_before zone rival) (marked_after zone rival) (is_of_rival rival test) holds
  where
    together : (b a r h : Bool) → ((b || (r && h)) || (a || (r && not h))) ≡ ((b || a) || r)
    together true a r h = refl
    together false true true true = refl
    together false true true false = refl
    together false true false h = refl
    together false false true true = refl
    together false false true false = refl
    together false false false h = refl

-- a proper split by a rival marks one more of the rivals
one_marked : (sheet : Sheet) (question : Question) (zone : List Literal) (club : ℕ) (holds : Bool)
    → nat_lt club (length sheet.clubs) ≡ true → (club == question.club) ≡ false
    → is_marked zone club ≡ false
    → unmarked_in sheet question (with_test zone (Rival club) holds) + 1
    ≡ unmarked_in sheet question zone
one_marked sheet question zone club holds named other unmarked =
    let counted = λ (rival : ℕ). not (is_marked zone rival) in
    let taken = λ (rival : ℕ). counted rival && (club == rival) in
    let left = λ (rival : ℕ). not (is_marked (with_test zone (Rival club) holds) rival) in
    let parts = count_by-parts counted taken left (λ rival. club == rival) (λ rival.
    refl) (λ rival. ap not (marked_in_half zone (Rival club) holds rival)
    ∙ neither (is_marked zone rival) (club == rival)) (rivals_of sheet question.club) in
    let one = count_by-filter (λ (rival : ℕ). not (rival == question.club)) taken (clubs_of sheet)
    ∙ count_by-agree (λ rival. not (rival == question.club) && taken rival)
    (λ rival. rival == club) alone (clubs_of sheet)
    ∙ count_by-one (length sheet.clubs) club (ltb-true club (length sheet.clubs) named) in
    omega (arith, parts, one)
  where
    neither : (a b : Bool) → not (a || b) ≡ (not a && not b)
    neither true b = refl
    neither false b = refl

    alone : (rival : ℕ)
        → (not (rival == question.club) && (not (is_marked zone rival) && (club == rival))) ≡
        (rival == club)
    alone rival =
        elim (cases_eq rival club) as (λ _.
        (not (rival == question.club) && (not (is_marked zone rival) && (club == rival))) ≡
        (rival == club)) [
          | inl same ↦
              ap (λ b. not b && (not (is_marked zone rival) && (club == rival)))
              (ap (λ n. n == question.club) same ∙ other)
              ∙ ap (λ b. not b && (club == rival)) (ap (is_marked zone) same ∙ unmarked)
              ∙ eq-eqb club rival (sym same)
              ∙ sym (eq-eqb rival club same)
          | inr apart ↦
              ap (λ b. not (rival == question.club) && (not (is_marked zone rival) && b))
              (ne_eqb club rival (λ e. apart (sym e)))
              ∙ none (not (rival == question.club)) (not (is_marked zone rival))
              ∙ sym (ne_eqb rival club apart)
        ]
      where
        none : (a b : Bool) → (a && (b && false)) ≡ false
        none true true = refl
        none true false = refl
        none false b = refl

pub one_rival_marked : (sheet : Sheet) (season : Results) (question : Question)
    (zone : List Literal) (test : Test) (holds : Bool) (rival : ℕ) → is_of_rival rival test ≡ true
    → is_proper sheet season question zone test ≡ true
    → unmarked_in sheet question (with_test zone test holds) + 1 ≡ unmarked_in sheet question zone
one_rival_marked sheet season question zone (Home fixture) holds rival of_rival proper = absurd
    (false≢true of_rival)
one_rival_marked sheet season question zone (Draw fixture) holds rival of_rival proper = absurd
    (false≢true of_rival)
one_rival_marked sheet season question zone (HomeMost fixture most) holds rival of_rival proper =
    absurd (false≢true of_rival)
one_rival_marked sheet season question zone (AwayMost fixture most) holds rival of_rival proper =
    absurd (false≢true of_rival)
one_rival_marked sheet season question zone (Rival club) holds rival of_rival proper =
    let parts = and_parts (nat_lt club (length sheet.clubs) && not (club == question.club))
    (not (is_marked zone club)) proper in
    let named = and_parts (nat_lt club (length sheet.clubs))
    (not (club == question.club)) parts.0 in
    one_marked sheet question zone club holds named.0 (not-true (club == question.club) named.1)
    (not-true (is_marked zone club) parts.1)

-- a test of a score leaves the number of unmarked rivals
pub unmarked_kept : (sheet : Sheet) (question : Question) (zone : List Literal) (test : Test)
    (holds : Bool) → is_of_score test ≡ true
    → unmarked_in sheet question (with_test zone test holds) ≡ unmarked_in sheet question zone
unmarked_kept sheet question zone test holds of_score =
    count_by-agree (λ rival. not (is_marked (with_test zone test holds) rival))
    (λ rival. not (is_marked zone rival))
    (λ rival. let kept = marks_kept zone test holds rival of_score in
    ap (λ b. not (b || marked_after (with_test zone test holds) rival)) kept.0
    ∙ ap (λ b. not (marked_before zone rival || b)) kept.1) (rivals_of sheet question.club)

-- without a literal no rival is marked
pub root_unmarked : (sheet : Sheet) (question : Question) → question.club < length sheet.clubs
    → unmarked_in sheet question [] + 1 ≡ length sheet.clubs
root_unmarked sheet question club_in =
    let all = sym (length-filter (λ (rival : ℕ). true) (rivals_of sheet question.club))
    ∙ ap length (filter-true (rivals_of sheet question.club)) in
    omega (arith, all, length-others_of (length sheet.clubs) question.club club_in)
