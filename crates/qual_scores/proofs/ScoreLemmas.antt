-- The least number of which something is true that is decided, and so the two scores.
use Rattle.std.proofs.Common.{◌≡◌, ◌⊎◌, inl, inr, ℕ, zero, suc, ◌+◌, ℤ, pos, negsuc, ◌+ℤ◌, ◌≤ℤ◌}
use Rattle.std.proofs.Common.{◌↔◌, true, false, int_le, [], ◌∷◌, sym, subst, arith}
use Rattle.std.proofs.lemmas.Bool.{cases_Bool}
use Rattle.std.proofs.lemmas.Int.{ints}
use Rattle.league_core.specs.declared.sheet.Sheet.{Sheet}
use Rattle.league_core.specs.declared.question.Claim.{Claim}
use Rattle.league_core.specs.declared.question.Claim.TheVariants.{Inside, Outside}
use Rattle.league_core.specs.game.Results.{Results, are_results}
use Rattle.league_core.specs.game.Seasons.{IsLeague}
use Rattle.league_core.specs.game.Questions.{IsQuestionOf, full_question}
use Rattle.league_core.specs.search.PointRanges.{most_points_of}
use Rattle.answer_laws.proofs.DecidedLemmas.{question_decided}
use Rattle.answer_rows.proofs.PartLemmas.{refutation_is_true}
use Rattle.qual_scores.specs.Scores.{IsLeastOf, IsPossibleScore, HasNoPossibleScore}
use Rattle.qual_scores.specs.Scores.{CanBeInsideWith, IsInsideFrom, IsGuaranteedScore}
use Rattle.qual_scores.specs.Scores.{question_between}
use Rattle.qual_scores.specs.Bisections.{HoldsOfPoints, IsNotAbove, first_range}
use Rattle.qual_scores.proofs.WindowLemmas.{inside_found, inside_none, outside_found, outside_none}
use Rattle.qual_scores.proofs.SearchLemmas.{first_below, possible_most, none_past_reach}
use Rattle.league_core.proofs.plain.Numbers.{int_le-to, distance}

-- ---- least numbers

-- it is decided whether something is true of some number not above this
abbrev IsDecidedFrom : (ℤ → Type 0) → ℤ → Type 0
IsDecidedFrom Holds low =
    (bound : ℤ) → low ≤ℤ bound → IsNotAbove Holds bound ⊎ (¬ IsNotAbove Holds bound)

-- what is decided from a number on, below which it is never true, is true of a least number up to a
-- bound, if it is true of some number up to it
least_upto : (Holds : ℤ → Type 0) (low : ℤ) (count : ℕ) → IsDecidedFrom Holds low
    → ((points : ℤ) → Holds points → low ≤ℤ points) → IsNotAbove Holds (low +ℤ pos count)
    → (number : ℤ) × IsLeastOf Holds number
least_upto Holds low zero decided below found =
    let points = found.0 in
    let most = found.2 in
    let least = below points found.1 in
    let same : points ≡ low = omega (arith, ints) in
    (low, record { holds = subst Holds same found.1; least = below })
least_upto Holds low (suc count) decided below found =
    elim (decided (low +ℤ pos count) (omega (arith, ints))) [
      | inl lower ↦ least_upto Holds low count decided below lower
      | inr none ↦ (
        found.0,
        record {
          holds = found.1;
          least = λ other holds. last found.0 other found.2
              (λ above. none (other, holds, above));
        },
      )
    ]
  where
    past : (a b : ℤ) → int_le a b ≡ false → (b +ℤ pos 1) ≤ℤ a
    past a b more = grind (arith, ints)

    last : (points other : ℤ) → points ≤ℤ (low +ℤ pos (suc count))
        → ¬ (other ≤ℤ (low +ℤ pos count)) → points ≤ℤ other
    last points other most above =
        elim (cases_Bool (int_le other (low +ℤ pos count))) as (λ _. points ≤ℤ other) [
          | inl less ↦ absurd (above (int_le-to other (low +ℤ pos count) less))
          | inr more ↦
              let behind = past other (low +ℤ pos count) more in
              omega (arith, ints)
        ]

least_there : (Holds : ℤ → Type 0) (low points : ℤ) → IsDecidedFrom Holds low
    → ((other : ℤ) → Holds other → low ≤ℤ other) → Holds points
    → (number : ℤ) × IsLeastOf Holds number
least_there Holds low points decided below holds =
    let far = distance low points (below points holds) in
    least_upto Holds low far.0 decided below
    (subst (IsNotAbove Holds) (sym far.1) (points, holds, omega (arith, ints)))

-- ---- the two scores

-- each window question decides its number
possible_decided : (sheet : Sheet) (season : Results) (club line : ℕ) → IsLeague sheet season
    → are_results season ≡ true → IsQuestionOf sheet (full_question club line Inside)
    → (bound : ℤ) → IsNotAbove (CanBeInsideWith sheet season club line) bound
    ⊎ (¬ IsNotAbove (CanBeInsideWith sheet season club line) bound)
possible_decided sheet season club line league results asked bound =
    let question = question_between club line Inside (negsuc 98) bound in
    elim (question_decided sheet season question league results
    (record { club = asked.club; least_line = asked.least_line; most_line = asked.most_line })) [
      | inl example ↦ inl (inside_found sheet season club line (negsuc 98) bound example.0
          example.1 example.2)
      | inr refuted ↦ inr (inside_none sheet season club line bound league results
          (refutation_is_true sheet season question refuted.0 asked.club refuted.1))
    ]

guaranteed_decided : (sheet : Sheet) (season : Results) (club line : ℕ) → IsLeague sheet season
    → are_results season ≡ true → IsQuestionOf sheet (full_question club line Inside)
    → IsDecidedFrom (IsInsideFrom sheet season club line) (pos 0)
guaranteed_decided sheet season club line league results asked bound from =
    let question = question_between club line Outside bound (pos 1800) in
    elim (question_decided sheet season question league results
    (record { club = asked.club; least_line = asked.least_line; most_line = asked.most_line })) [
      | inl example ↦ inr (outside_found sheet season club line bound example.0 example.1
          example.2)
      | inr refuted ↦ inl (outside_none sheet season club line bound from
          (refutation_is_true sheet season question refuted.0 asked.club refuted.1))
    ]

-- a number of which the score's fact is true has a least one
score_there : (sheet : Sheet) (season : Results) (club line : ℕ) (claim : Claim) (points : ℤ)
    → IsLeague sheet season → are_results season ≡ true
    → IsQuestionOf sheet (full_question club line Inside)
    → HoldsOfPoints sheet season club line claim points
    → (number : ℤ) × IsLeastOf (HoldsOfPoints sheet season club line claim) number
score_there sheet season club line Inside points league results asked holds =
    least_there (CanBeInsideWith sheet season club line)
    ((first_range sheet season club Inside).low) points
    (λ bound from. possible_decided sheet season club line league results asked bound)
    (first_below sheet season club line Inside) holds
score_there sheet season club line Outside points league results asked holds =
    least_there (IsInsideFrom sheet season club line) (pos 0) points
    (guaranteed_decided sheet season club line league results asked)
    (first_below sheet season club line Outside) holds

pub possible_there : (sheet : Sheet) (season : Results) (club line : ℕ) → IsLeague sheet season
    → are_results season ≡ true → IsQuestionOf sheet (full_question club line Inside)
    → ((number : ℤ) × IsPossibleScore sheet season club line number)
    ⊎ HasNoPossibleScore sheet season club line
possible_there sheet season club line league results asked =
    let reach = most_points_of sheet season [] (club ∷ []) in
    elim (possible_decided sheet season club line league results asked reach) [
      | inl found ↦ inl (score_there sheet season club line Inside found.0 league results asked
          found.1)
      | inr none ↦ inr (λ points holds.
          none (points, holds, possible_most sheet season club line points holds))
    ]

pub guaranteed_there : (sheet : Sheet) (season : Results) (club line : ℕ) → IsLeague sheet season
    → are_results season ≡ true → IsQuestionOf sheet (full_question club line Inside)
    → (number : ℤ) × IsGuaranteedScore sheet season club line number
guaranteed_there sheet season club line league results asked =
    let high = natural_past (most_points_of sheet season [] (club ∷ [])) in
    let found = none_past_reach sheet season club line (pos high.0) (omega (arith, ints)) high.1 in
    score_there sheet season club line Outside found.0 league results asked found.1
  where
    natural_past : (points : ℤ) → (count : ℕ) × ((points +ℤ pos 1) ≤ℤ pos count)
    natural_past (pos n) = (n + 1, omega (arith, ints))
    natural_past (negsuc n) = (0, omega (arith, ints))

pub halving_is_by_score : (sheet : Sheet) (season : Results) (club line : ℕ) (claim : Claim)
    (bound : ℤ) → IsLeague sheet season → are_results season ≡ true
    → IsQuestionOf sheet (full_question club line Inside)
    → IsNotAbove (HoldsOfPoints sheet season club line claim) bound
    ↔ ((number : ℤ) × IsLeastOf (HoldsOfPoints sheet season club line claim) number
    × (number ≤ℤ bound))
halving_is_by_score sheet season club line claim bound league results asked = (forth, back)
  where
    forth : IsNotAbove (HoldsOfPoints sheet season club line claim) bound
        → (number : ℤ) × IsLeastOf (HoldsOfPoints sheet season club line claim) number
        × (number ≤ℤ bound)
    forth found =
        let most = found.2 in
        let least = score_there sheet season club line claim found.0 league results asked found.1
        in
        let below = least.1.least found.0 found.1 in
        (least.0, least.1, omega (arith, ints))

    back : (number : ℤ) × IsLeastOf (HoldsOfPoints sheet season club line claim) number
        × (number ≤ℤ bound)
        → IsNotAbove (HoldsOfPoints sheet season club line claim) bound
    back is = (is.0, is.1.holds, is.2)
