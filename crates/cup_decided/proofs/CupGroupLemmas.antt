-- The groups of a cup with their seasons: what is known of each, that no two begin with one club,
-- and in which group a club of the cup plays.
use Rattle.std.proofs.Common.{◌≡◌, ◌≢◌, ◌<◌, ℕ, zero, suc, ◌+◌, ◌-◌, true, not, ◌==◌, nat_lt, List}
use Rattle.std.proofs.Common.{[], ◌∷◌, length, Some, refl, ap, subst, inl, inr, arith}
use Rattle.std.specs.Prelude.{slice_get, All, IsTrue}
use Rattle.std.proofs.lemmas.Bool.{cases_Bool, ltb-true, ltb-false, ne_eqb}
use Rattle.std.proofs.lemmas.List.Elements.{All-head, All-tail}
use Rattle.std.proofs.lemmas.Option.{none-some, same_Some}
use Rattle.league_core.specs.declared.sheet.Sheet.{Sheet}
use Rattle.league_core.specs.game.Results.{Results, are_results}
use Rattle.league_core.specs.game.Seasons.{IsLeague}
use Rattle.cup_sheet.specs.Cups.{AreSeasonsOf, IsGroup, clubs_together}
use Rattle.cup_sheet.specs.JointFinishes.{GroupState, states_from}
use Rattle.cup_laws.specs.inside.CupTruths.{AreCupResults}
use Rattle.cup_laws.proofs.GroupEndLemmas.{from_first}

-- a group that plays for itself, with results that may be
pub record IsPlayed (group : GroupState) : Type 0 where
  pub league : IsLeague group.sheet group.results
  pub results : are_results group.results ≡ true

-- the first group of those from a number on
abbrev head_state : ℕ → Sheet → Results → GroupState
head_state first sheet season = record {
  block = record { first = first; count = length sheet.clubs };
  sheet = sheet;
  results = season;
}

module _ (goal_limit budget : ℕ) where
  -- each group is one
  pub played_at : (first : ℕ) (groups : List Sheet) (seasons : List Results) (number : ℕ)
      (group : GroupState) → All (IsGroup goal_limit budget) groups
      → AreSeasonsOf groups seasons → AreCupResults seasons
      → slice_get (states_from first groups seasons) number ≡ Some group → IsPlayed group
  played_at first [] seasons number group are each results there = absurd (none-some group there)
  played_at first (sheet ∷ groups) [] number group are each results there =
      absurd (none-some group there)
  played_at first (sheet ∷ groups) (season ∷ seasons) zero group are each results there =
      subst IsPlayed (same_Some (head_state first sheet season) group there) (record {
        league = record {
          limits = (All-head (IsGroup goal_limit budget) sheet groups are).limits;
          of_sheet = each.0;
        };
        results = All-head (λ it. IsTrue (are_results it)) season seasons results;
      })
  played_at first (sheet ∷ groups) (season ∷ seasons) (suc number) group are each results there =
      played_at (first + length sheet.clubs) groups seasons number group
      (All-tail (IsGroup goal_limit budget) sheet groups are) each.1
      (All-tail (λ it. IsTrue (are_results it)) season seasons results) there

  -- a later group begins with a later club
  starts_rise : (first : ℕ) (groups : List Sheet) (seasons : List Results) (j k : ℕ)
      (one other : GroupState) → All (IsGroup goal_limit budget) groups
      → slice_get (states_from first groups seasons) j ≡ Some one
      → slice_get (states_from first groups seasons) k ≡ Some other → j < k
      → one.block.first < other.block.first
  starts_rise first [] seasons j k one other are here there before =
      absurd (none-some one here)
  starts_rise first (sheet ∷ groups) [] j k one other are here there before =
      absurd (none-some one here)
  starts_rise first (sheet ∷ groups) (season ∷ seasons) j zero one other are here there before =
      absurd (omega (arith, before))
  starts_rise first (sheet ∷ groups) (season ∷ seasons) zero (suc k) one other are here there
      before =
      let least = (All-head (IsGroup goal_limit budget) sheet groups are).least_clubs in
      let same : head_state first sheet season ≡ one =
      same_Some (head_state first sheet season) one here in
      omega (
        arith,
        least,
        ap (λ (it : GroupState). it.block.first) same,
        from_first (first + length sheet.clubs) groups seasons k other there,
      )
  starts_rise first (sheet ∷ groups) (season ∷ seasons) (suc j) (suc k) one other are here there
      before =
      starts_rise (first + length sheet.clubs) groups seasons j k one other
      (All-tail (IsGroup goal_limit budget) sheet groups are) here there (omega (arith, before))

  -- so two groups with different numbers do not begin with one club
  pub starts_are_apart : (first : ℕ) (groups : List Sheet) (seasons : List Results) (j k : ℕ)
      (one other : GroupState) → All (IsGroup goal_limit budget) groups
      → slice_get (states_from first groups seasons) j ≡ Some one
      → slice_get (states_from first groups seasons) k ≡ Some other → j ≢ k
      → not (one.block.first == other.block.first) ≡ true
  starts_are_apart first groups seasons j k one other are here there different =
      ap not (ne_eqb one.block.first other.block.first apart)
    where
      apart : one.block.first ≢ other.block.first
      apart same =
          elim (cases_Bool (nat_lt j k)) as (λ _. ⊥) [
            | inl before ↦
                let less = starts_rise first groups seasons j k one other are here there
                (ltb-true j k before) in
                omega (arith, less, same)
            | inr not_before ↦ elim (cases_Bool (nat_lt k j)) as (λ _. ⊥) [
              | inl after ↦
                  let less = starts_rise first groups seasons k j other one are there here
                  (ltb-true k j after) in
                  omega (arith, less, same)
              | inr not_after ↦
                  different (omega (arith, ltb-false j k not_before, ltb-false k j not_after))
            ]
          ]

-- there are as many groups as sheets
pub count_of_states : (first : ℕ) (groups : List Sheet) (seasons : List Results)
    → AreSeasonsOf groups seasons → length (states_from first groups seasons) ≡ length groups
count_of_states first [] [] each = refl
count_of_states first [] (season ∷ seasons) each = absurd each
count_of_states first (sheet ∷ groups) [] each = absurd each
count_of_states first (sheet ∷ groups) (season ∷ seasons) each =
    ap (λ n. suc n) (count_of_states (first + length sheet.clubs) groups seasons each.1)

-- ---- the group of a club

-- the group with a club of those from a number on, and the club's number there
pub record PlaysIn (states : List GroupState) (club : ℕ) : Type 0 where
  pub number : ℕ
  pub mine : GroupState
  pub own : ℕ
  pub there : slice_get states number ≡ Some mine
  pub own_club : own < length mine.sheet.clubs
  pub of_club : club ≡ mine.block.first + own

pub group_with_club : (first : ℕ) (groups : List Sheet) (seasons : List Results) (club : ℕ)
    → AreSeasonsOf groups seasons → club < clubs_together groups
    → PlaysIn (states_from first groups seasons) (first + club)
group_with_club first [] seasons club each within = absurd (omega (arith, within))
group_with_club first (sheet ∷ groups) [] club each within = absurd each
group_with_club first (sheet ∷ groups) (season ∷ seasons) club each within =
    let clubs = length sheet.clubs in
    let states = states_from first (sheet ∷ groups) (season ∷ seasons) in
    elim (cases_Bool (nat_lt club clubs)) as (λ _. PlaysIn states (first + club)) [
      | inl inside ↦ record {
        number = 0;
        mine = head_state first sheet season;
        own = club;
        there = refl;
        own_club = ltb-true club clubs inside;
        of_club = refl;
      }
      | inr beyond ↦
          let past = ltb-false club clubs beyond in
          let later = group_with_club (first + clubs) groups seasons (club - clubs) each.1
          (omega (arith, within, past)) in
          record {
            number = suc later.number;
            mine = later.mine;
            own = later.own;
            there = later.there;
            own_club = later.own_club;
            of_club = omega (arith, past, later.of_club);
          }
    ]
