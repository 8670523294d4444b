-- Where a club is on a side at a joint finish, its own group and others can end so by themselves.
use Rattle.std.proofs.Common.{◌≡◌, ◌<◌, ◌≤◌, inl, inr, ℕ, zero, suc, ◌+◌, Bool, true, false}
use Rattle.std.proofs.Common.{◌==◌, cond, List, [], ◌∷◌, length, count_by}
use Rattle.std.proofs.Common.{None, Some, refl, sym, ap, ◌∙◌, arith}
use Rattle.std.proofs.Common.{slice_index_or}
use Rattle.std.specs.Prelude.{slice_get, All, unwrap_or}
use Rattle.std.proofs.lemmas.Bool.{cases_Bool, eqb-true}
use Rattle.std.proofs.lemmas.Bool.Decides.{nat_tests}
use Rattle.league_core.specs.declared.sheet.Sheet.{Sheet}
use Rattle.league_core.specs.game.Results.{Results}
use Rattle.league_core.specs.game.Ranking.{are_lots}
use Rattle.league_core.proofs.plain.Counts.{count_by-cons}
use Rattle.cup_sheet.specs.declared.cup.Cup.{Cup}
use Rattle.cup_sheet.specs.CupLimits.{direct_places}
use Rattle.cup_sheet.specs.Cups.{IsGroup, clubs_together}
use Rattle.cup_sheet.specs.JointFinishes.{GroupState}
use Rattle.cup_sheet.specs.JointFinishes.{lots_within, states_of, states_from, AreFinishesOf}
use Rattle.cup_sheet.specs.GroupQuestions.{GroupQuestion, holds_in_group}
use Rattle.cup_laws.specs.inside.GroupWays.{CanEndInGroup}
use Rattle.cup_laws.proofs.GroupEndLemmas.{get_there, ended, IsEndOf}
use Rattle.cup_laws.proofs.GroupEndLemmas.{states_are_all}
use Rattle.cup_laws.proofs.CandidateLemmas.{own_drawn}
use Rattle.cup_laws.proofs.CupTruthLemmas.{HaveEnds}

-- ---- groups at a finish and before it

-- an element of a list is at a place within it
pub place_within : {X : Type 0} (xs : List X) (k : ℕ) (x : X) → slice_get xs k ≡ Some x
    → k < length xs
place_within [] k x there = absurd (let c : None ≡ Some x = there in cc)
place_within (first ∷ xs) zero x there = omega arith
place_within (first ∷ xs) (suc k) x there =
    let rest = place_within xs k x there in
    omega (arith, rest)

-- there are as many groups with seasons as with finishes
seasons_are_all : (first : ℕ) (groups : List Sheet) (seasons finishes : List Results)
    → AreFinishesOf groups seasons finishes
    → length (states_from first groups seasons) ≡ length groups
seasons_are_all first [] [] [] each = refl
seasons_are_all first [] [] (finish ∷ finishes) each = absurd each
seasons_are_all first [] (season ∷ seasons) finishes each = absurd each
seasons_are_all first (sheet ∷ groups) [] [] each = absurd each
seasons_are_all first (sheet ∷ groups) [] (finish ∷ finishes) each = absurd each
seasons_are_all first (sheet ∷ groups) (season ∷ seasons) [] each = absurd each
seasons_are_all first (sheet ∷ groups) (season ∷ seasons) (finish ∷ finishes) each =
    let rest = seasons_are_all (first + length sheet.clubs) groups seasons finishes each.1 in
    omega (arith, rest)

-- a group as it ends is one of the groups with its season
abbrev pub WasAt : Cup → List Results → ℕ → GroupState → Type 0
WasAt cup seasons k end =
    (group : GroupState) × (finish : Results)
    × (slice_get (states_of cup seasons) k ≡ Some group) × (end ≡ ended group finish)
    × IsEndOf (clubs_together cup.groups) group finish

pub was_at : (cup : Cup) (seasons finishes : List Results) → HaveEnds cup seasons finishes
    → AreFinishesOf cup.groups seasons finishes → (k : ℕ) (end : GroupState)
    → slice_get (states_of cup finishes) k ≡ Some end → WasAt cup seasons k end
was_at cup seasons finishes ends each k end there =
    let below : k < length (states_of cup seasons) = omega (
      arith,
      place_within (states_of cup finishes) k end there,
      states_are_all 0 cup.groups seasons finishes each,
      seasons_are_all 0 cup.groups seasons finishes each,
    ) in
    let group = slice_index_or (states_of cup seasons) k end in
    let got = get_there (states_of cup seasons) k end below in
    let at = ends k group got in
    (group, at.0, got, ap (λ found. unwrap_or found end) (sym there ∙ at.1), at.2)

-- a question that holds at the end of a group has an example
pub shown_at_end : (clubs : ℕ) (group : GroupState) (finish : Results) (lots : List ℕ)
    (question : GroupQuestion) → IsEndOf clubs group finish → are_lots clubs lots ≡ true
    → holds_in_group direct_places group.sheet question finish (lots_within group.block lots)
    ≡ true → CanEndInGroup group question
shown_at_end clubs group finish lots question end drawn holds = (
  finish,
  lots_within group.block lots,
  record {
    is_finish = end.is_finish;
    is_drawn = own_drawn clubs group finish lots end drawn;
    holds = holds;
  },
)

-- ---- one group begins at a number

-- none of the later groups begins at a lesser number
none_begins : (start first : ℕ) (groups : List Sheet) (results : List Results) → start < first
    → count_by (λ (group : GroupState). group.block.first == start)
    (states_from first groups results) ≡ 0
none_begins start first [] results before = refl
none_begins start first (sheet ∷ groups) [] before = refl
none_begins start first (sheet ∷ groups) (own ∷ results) before =
    let head : GroupState = record {
      block = record { first = first; count = length sheet.clubs };
      sheet = sheet;
      results = own;
    } in
    omega (
      arith,
      count_by-cons (λ (group : GroupState). group.block.first == start) head
          (states_from (first + length sheet.clubs) groups results),
      ap (λ b. cond {A = ℕ} b 1 0) (other first start before),
      none_begins start (first + length sheet.clubs) groups results (omega (arith, before)),
    )
  where
    other : (a b : ℕ) → b < a → (a == b) ≡ false
    other a b less = grind (arith, nat_tests, less)

-- at most one does
pub one_begins : (start first goal_limit budget : ℕ) (groups : List Sheet) (results : List Results)
    → All (IsGroup goal_limit budget) groups
    → count_by (λ (group : GroupState). group.block.first == start)
    (states_from first groups results) ≤ 1
one_begins start first goal_limit budget [] results all = omega arith
one_begins start first goal_limit budget (sheet ∷ groups) [] all = omega arith
one_begins start first goal_limit budget (sheet ∷ groups) (own ∷ results) all =
    let head : GroupState = record {
      block = record { first = first; count = length sheet.clubs };
      sheet = sheet;
      results = own;
    } in
    let begins : GroupState → Bool = λ group. group.block.first == start in
    let later = states_from (first + length sheet.clubs) groups results in
    let whole = count_by-cons begins head later in
    let is = all 0 sheet (omega arith) in
    elim (cases_Bool (first == start)) as (λ _. count_by begins (head ∷ later) ≤ 1) [
      | inl same ↦ omega (
        arith,
        whole,
        ap (λ b. cond {A = ℕ} b 1 0) same,
        none_begins start (first + length sheet.clubs) groups results
            (omega (arith, eqb-true first start same, is.least_clubs)),
      )
      | inr other ↦ omega (
        arith,
        whole,
        ap (λ b. cond {A = ℕ} b 1 0) other,
        one_begins start (first + length sheet.clubs) goal_limit budget groups results
            (λ k d below. all (suc k) d (omega (arith, below))),
      )
    ]
