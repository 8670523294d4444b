-- The goals of the scores of two kinds: each end is that of the one kind or of the other.
use Rattle.std.proofs.Common.{◌≡◌, ℕ, ◌<◌, ◌≤◌, ◌⊎◌, inl, inr, Bool, true, ◌||◌}
use Rattle.std.proofs.Common.{min, max, Option, Some, None}
use Rattle.std.proofs.Common.{refl, sym, ◌∙◌, arith}
use Rattle.std.proofs.lemmas.Bool.{or_cases, or_left, or_right}
use Rattle.std.proofs.lemmas.Bool.{cases_lt}
use Rattle.league_core.specs.declared.season.Score.{Score}
use Rattle.score_box.specs.declared.cell.Cell.{Cell}
use Rattle.score_box.specs.declared.cell.goals.ScoreRange.{ScoreRange}
use Rattle.score_box.specs.inside.Cells.{IsAllowed, AllowsNone}
use Rattle.score_box.specs.inside.Cells.{IsScoreRangeOf, IsBetween}
use Rattle.near_box.specs.inside.CellMatches.{IsRangeIfAny}

-- the scores of two kinds
abbrev pub either_of : (Score → Bool) → (Score → Bool) → Score → Bool
either_of one other score = one score || other score

-- a score of the cell that passes has so many goals on a side
abbrev Reaches : Cell → (Score → Bool) → (Score → ℕ) → ℕ → Type 0
Reaches cell test side goals = (score : Score) × IsAllowed cell test score × (side score ≡ goals)

first_reached : (cell : Cell) (one other : Score → Bool) (side : Score → ℕ) (end all : ℕ)
    → Reaches cell one side end → all ≡ end → Reaches cell (either_of one other) side all
first_reached cell one other side end all here is = (
  here.0,
  record {
    allowed = here.1.allowed;
    passed = or_left (one here.0) (other here.0) here.1.passed;
  },
  here.2 ∙ sym is,
)

second_reached : (cell : Cell) (one other : Score → Bool) (side : Score → ℕ) (end all : ℕ)
    → Reaches cell other side end → all ≡ end → Reaches cell (either_of one other) side all
second_reached cell one other side end all here is = (
  here.0,
  record {
    allowed = here.1.allowed;
    passed = or_right (one here.0) (other here.0) here.1.passed;
  },
  here.2 ∙ sym is,
)

least_reached : (cell : Cell) (one other : Score → Bool) (side : Score → ℕ) (a b least : ℕ)
    → least ≡ min a b → Reaches cell one side a → Reaches cell other side b
    → Reaches cell (either_of one other) side least
least_reached cell one other side a b least is here there = by (cases_lt a b)
  where
    by : (a < b) ⊎ (b ≤ a) → Reaches cell (either_of one other) side least
    by (inl less) = first_reached cell one other side a least here (omega (arith, is, less))
    by (inr more) = second_reached cell one other side b least there (omega (arith, is, more))

most_reached : (cell : Cell) (one other : Score → Bool) (side : Score → ℕ) (a b most : ℕ)
    → most ≡ max a b → Reaches cell one side a → Reaches cell other side b
    → Reaches cell (either_of one other) side most
most_reached cell one other side a b most is here there = by (cases_lt a b)
  where
    by : (a < b) ⊎ (b ≤ a) → Reaches cell (either_of one other) side most
    by (inl less) = second_reached cell one other side b most there (omega (arith, is, less))
    by (inr more) = first_reached cell one other side a most here (omega (arith, is, more))

-- the lesser and the greater ends are those of the scores of both kinds
pub around_both : (cell : Cell) (one other : Score → Bool) (goals more all : ScoreRange)
    → all.home_least ≡ min goals.home_least more.home_least
    → all.home_most ≡ max goals.home_most more.home_most
    → all.away_least ≡ min goals.away_least more.away_least
    → all.away_most ≡ max goals.away_most more.away_most
    → IsScoreRangeOf cell one goals → IsScoreRangeOf cell other more
    → IsScoreRangeOf cell (either_of one other) all
around_both cell one other goals more all hl hm al am mine theirs = record {
  within = λ score is. by score is (or_cases (one score) (other score) is.passed);
  home_least = least_reached cell one other (λ s. s.home) goals.home_least more.home_least
      all.home_least hl mine.home_least theirs.home_least;
  home_most = most_reached cell one other (λ s. s.home) goals.home_most more.home_most
      all.home_most hm mine.home_most theirs.home_most;
  away_least = least_reached cell one other (λ s. s.away) goals.away_least more.away_least
      all.away_least al mine.away_least theirs.away_least;
  away_most = most_reached cell one other (λ s. s.away) goals.away_most more.away_most
      all.away_most am mine.away_most theirs.away_most;
}
  where
    by : (score : Score) → IsAllowed cell (either_of one other) score
        → (one score ≡ true) ⊎ (other score ≡ true)
        → IsBetween all score
    by score is (inl first) =
        let at = mine.within score (record { allowed = is.allowed; passed = first }) in record {
          home_least = omega (arith, hl, at.home_least);
          home_most = omega (arith, hm, at.home_most);
          away_least = omega (arith, al, at.away_least);
          away_most = omega (arith, am, at.away_most);
        }
    by score is (inr second) =
        let at = theirs.within score (record { allowed = is.allowed; passed = second }) in record {
          home_least = omega (arith, hl, at.home_least);
          home_most = omega (arith, hm, at.home_most);
          away_least = omega (arith, al, at.away_least);
          away_most = omega (arith, am, at.away_most);
        }

-- if there is none of the one kind, those of the other are all
pub none_of_first : (cell : Cell) (one other : Score → Bool) (goals : Option ScoreRange)
    → AllowsNone cell one → IsRangeIfAny cell other goals
    → IsRangeIfAny cell (either_of one other) goals
none_of_first cell one other None none theirs = λ score is.
    elim (or_cases (one score) (other score) is.passed) as (λ _. ⊥) [
      | inl first ↦ none score (record { allowed = is.allowed; passed = first })
      | inr second ↦ theirs score (record { allowed = is.allowed; passed = second })
    ]
none_of_first cell one other (Some goals) none theirs = record {
  within = λ score is.
      elim (or_cases (one score) (other score) is.passed) as (λ _. IsBetween goals score) [
        | inl first ↦ absurd (none score (record { allowed = is.allowed; passed = first }))
        | inr second ↦ theirs.within score (record { allowed = is.allowed; passed = second })
      ];
  home_least = second_reached cell one other (λ s. s.home) goals.home_least goals.home_least
      theirs.home_least refl;
  home_most = second_reached cell one other (λ s. s.home) goals.home_most goals.home_most
      theirs.home_most refl;
  away_least = second_reached cell one other (λ s. s.away) goals.away_least goals.away_least
      theirs.away_least refl;
  away_most = second_reached cell one other (λ s. s.away) goals.away_most goals.away_most
      theirs.away_most refl;
}

pub none_of_second : (cell : Cell) (one other : Score → Bool) (goals : ScoreRange)
    → IsScoreRangeOf cell one goals → AllowsNone cell other
    → IsScoreRangeOf cell (either_of one other) goals
none_of_second cell one other goals mine none = record {
  within = λ score is.
      elim (or_cases (one score) (other score) is.passed) as (λ _. IsBetween goals score) [
        | inl first ↦ mine.within score (record { allowed = is.allowed; passed = first })
        | inr second ↦ absurd (none score (record { allowed = is.allowed; passed = second }))
      ];
  home_least = first_reached cell one other (λ s. s.home) goals.home_least goals.home_least
      mine.home_least refl;
  home_most = first_reached cell one other (λ s. s.home) goals.home_most goals.home_most
      mine.home_most refl;
  away_least = first_reached cell one other (λ s. s.away) goals.away_least goals.away_least
      mine.away_least refl;
  away_most = first_reached cell one other (λ s. s.away) goals.away_most goals.away_most
      mine.away_most refl;
}
