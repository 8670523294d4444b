-- The groups of a cup at a joint finish: each has the place and the sheet that it has with its
-- season, and no two share a club.
use Rattle.std.proofs.Common.{◌≡◌, ◌<◌, ◌≤◌, ℕ, zero, suc, ◌+◌, Bool, true, false, ◌||◌, List}
use Rattle.std.proofs.Common.{[], ◌∷◌, length, nat_le, nat_lt, Some, None, refl, sym, ap, ◌∙◌}
use Rattle.std.proofs.Common.{subst, arith, slice_index_or}
use Rattle.std.specs.Prelude.{slice_get, All, unwrap_or}
use Rattle.std.specs.List.{list_any}
use Rattle.std.proofs.lemmas.Bool.{false≢true, and_parts, ltb-true, leb-true, or_left, or_right}
use Rattle.league_core.specs.declared.sheet.Sheet.{Sheet}
use Rattle.league_core.specs.game.Results.{Results, are_results}
use Rattle.league_core.specs.game.Sheets.{IsWithinLimits}
use Rattle.league_core.specs.game.Finishes.{IsFinishOf}
use Rattle.cup_sheet.specs.Cups.{IsGroup, clubs_together}
use Rattle.cup_sheet.specs.JointFinishes.{ClubBlock, is_in_block, GroupState, states_from}
use Rattle.cup_sheet.specs.JointFinishes.{AreFinishesOf}

-- a list with an element at a place has it there
pub get_there : {X : Type 0} (xs : List X) (k : ℕ) (d : X) → k < length xs
    → slice_get xs k ≡ Some (slice_index_or xs k d)
get_there [] k d below = absurd (omega (arith, below))
get_there (x ∷ xs) zero d below = refl
get_there (x ∷ xs) (suc k) d below = get_there xs k d (omega (arith, below))

-- an element at a place that passes
pub any_there : {X : Type 0} (p : X → Bool) (xs : List X) (k : ℕ) (x : X)
    → slice_get xs k ≡ Some x → p x ≡ true → list_any p xs ≡ true
any_there p [] k x there passes = absurd (let c : None ≡ Some x = there in cc)
any_there p (first ∷ xs) zero x there passes =
    or_left (p first) (list_any p xs)
    (ap p (ap (λ found. unwrap_or found x) there) ∙ passes)
any_there p (first ∷ xs) (suc k) x there passes =
    or_right (p first) (list_any p xs) (any_there p xs k x there passes)

-- some element that passes stands at a place
pub there_is : {X : Type 0} (p : X → Bool) (xs : List X) → list_any p xs ≡ true
    → (k : ℕ) × (x : X) × (slice_get xs k ≡ Some x) × (p x ≡ true)
there_is p [] some = absurd (false≢true some)
there_is {X} p (x ∷ xs) some =
    elim (p x) as (λ b. p x ≡ b → (b || list_any p xs) ≡ true
    → (k : ℕ) × (y : X) × (slice_get (x ∷ xs) k ≡ Some y) × (p y ≡ true)) [
      | true ↦ λ passes _. (0, x, refl, passes)
      | false ↦ λ _ later. let found = there_is p xs later in
          (suc found.0, found.1, found.2, found.3)
    ] refl some

-- a group as it ends
abbrev pub ended : GroupState → Results → GroupState
ended group finish = record { block = group.block; sheet = group.sheet; results = finish }

-- what is known of a group with its season and of how it ends, among so many clubs of the cup
pub record IsEndOf (clubs : ℕ) (group : GroupState) (finish : Results) : Type 0 where
  pub limits : IsWithinLimits group.sheet
  pub least_clubs : 3 ≤ length group.sheet.clubs
  pub results : are_results group.results ≡ true
  pub count : group.block.count ≡ length group.sheet.clubs
  pub within : group.block.first + group.block.count ≤ clubs
  pub is_finish : IsFinishOf group.sheet group.results finish

-- the sheets and the seasons that these are about
pub record AreKnown (goal_limit budget : ℕ) (groups : List Sheet) (seasons : List Results)
    : Type 0 where
  pub are_groups : All (IsGroup goal_limit budget) groups
  pub have_results : All (λ season. are_results season ≡ true) seasons

known_later : (goal_limit budget : ℕ) (group : Sheet) (groups : List Sheet) (season : Results)
    (seasons : List Results) → AreKnown goal_limit budget (group ∷ groups) (season ∷ seasons)
    → AreKnown goal_limit budget groups seasons
known_later goal_limit budget group groups season seasons known = record {
  are_groups = λ k d below. known.are_groups (suc k) d (omega (arith, below));
  have_results = λ k d below. known.have_results (suc k) d (omega (arith, below));
}

-- a group with its season stands at its place with its finish too
abbrev pub EndsAt : ℕ → ℕ → List Sheet → List Results → ℕ → GroupState → Type 0
EndsAt clubs first groups finishes k group =
    (finish : Results) × (slice_get (states_from first groups finishes) k ≡ Some
    (ended group finish))
    × IsEndOf clubs group finish

pub state_at : (goal_limit budget clubs first : ℕ) (groups : List Sheet)
    (seasons finishes : List Results) → AreKnown goal_limit budget groups seasons
    → AreFinishesOf groups seasons finishes → first + clubs_together groups ≤ clubs
    → (k : ℕ) (group : GroupState) → slice_get (states_from first groups seasons) k ≡ Some group
    → EndsAt clubs first groups finishes k group
state_at goal_limit budget clubs first [] seasons finishes known each fits k group there =
    absurd (let c : None ≡ Some group = there in cc)
state_at goal_limit budget clubs first (sheet ∷ groups) [] [] known each fits k group there =
    absurd each
state_at goal_limit budget clubs first (sheet ∷ groups) [] (finish ∷ finishes) known each fits k
    group there = absurd each
state_at goal_limit budget clubs first (sheet ∷ groups) (season ∷ seasons) [] known each fits k
    group there = absurd each
state_at goal_limit budget clubs first (sheet ∷ groups) (season ∷ seasons) (finish ∷ finishes) known
    each fits zero group there =
    let head : GroupState = record {
      block = record { first = first; count = length sheet.clubs };
      sheet = sheet;
      results = season;
    } in
    let is = known.are_groups 0 sheet (omega arith) in
    subst (λ it. EndsAt clubs first (sheet ∷ groups) (finish ∷ finishes) 0 it)
    (ap (λ found. unwrap_or found head) there) (
      finish,
      refl,
      record {
        limits = is.limits;
        least_clubs = is.least_clubs;
        results = known.have_results 0 season (omega arith);
        count = refl;
        within = omega (arith, fits);
        is_finish = each.0;
      },
    )
state_at goal_limit budget clubs first (sheet ∷ groups) (season ∷ seasons) (finish ∷ finishes) known
    each fits (suc k) group there =
    state_at goal_limit budget clubs (first + length sheet.clubs) groups seasons finishes
    (known_later goal_limit budget sheet groups season seasons known) each.1 (omega (arith, fits)) k
    group there

-- there are as many groups with finishes as sheets
pub states_are_all : (first : ℕ) (groups : List Sheet) (seasons finishes : List Results)
    → AreFinishesOf groups seasons finishes
    → length (states_from first groups finishes) ≡ length groups
states_are_all first [] [] [] each = refl
states_are_all first [] [] (finish ∷ finishes) each = absurd each
states_are_all first [] (season ∷ seasons) finishes each = absurd each
states_are_all first (sheet ∷ groups) [] [] each = absurd each
states_are_all first (sheet ∷ groups) [] (finish ∷ finishes) each = absurd each
states_are_all first (sheet ∷ groups) (season ∷ seasons) [] each = absurd each
states_are_all first (sheet ∷ groups) (season ∷ seasons) (finish ∷ finishes) each =
    let rest = states_are_all (first + length sheet.clubs) groups seasons finishes each.1 in
    omega (arith, rest)

-- the clubs of the groups from a number on are from this number on
pub from_first : (first : ℕ) (groups : List Sheet) (results : List Results) (k : ℕ)
    (group : GroupState) → slice_get (states_from first groups results) k ≡ Some group
    → first ≤ group.block.first
from_first first [] results k group there = absurd (let c : None ≡ Some group = there in cc)
from_first first (sheet ∷ groups) [] k group there =
    absurd (let c : None ≡ Some group = there in cc)
from_first first (sheet ∷ groups) (own ∷ results) zero group there =
    let head : GroupState = record {
      block = record { first = first; count = length sheet.clubs };
      sheet = sheet;
      results = own;
    } in
    subst (λ it. first ≤ it.block.first) (ap (λ found. unwrap_or found head) there) (omega arith)
from_first first (sheet ∷ groups) (own ∷ results) (suc k) group there =
    let rest = from_first (first + length sheet.clubs) groups results k group there in
    omega (arith, rest)

-- the bounds of a block with the club
pub block_bounds : (block : ClubBlock) (club : ℕ) → is_in_block block club ≡ true
    → (block.first ≤ club) × (club < block.first + block.count)
block_bounds block club inside =
    let both = and_parts (nat_le block.first club) (nat_lt club (block.first + block.count)) inside
    in (leb-true block.first club both.0, ltb-true club (block.first + block.count) both.1)

-- a club that is one of the first group is none of a later one
apart : (first club : ℕ) (sheet : Sheet) (own : Results) (groups : List Sheet)
    (results : List Results) (k : ℕ) (head group : GroupState)
    → head ≡ record {
      block = record { first = first; count = length sheet.clubs };
      sheet = sheet;
      results = own;
    }
    → slice_get (states_from (first + length sheet.clubs) groups results) k ≡ Some group
    → is_in_block head.block club ≡ true → is_in_block group.block club ≡ true → ⊥
apart first club sheet own groups results k head group is there inside_head inside =
    let beyond = from_first (first + length sheet.clubs) groups results k group there in
    let low = block_bounds group.block club inside in
    let high = block_bounds head.block club inside_head in
    let start : head.block.first ≡ first = ap (λ it. it.block.first) is in
    let width : head.block.count ≡ length sheet.clubs = ap (λ it. it.block.count) is in
    omega (arith, beyond, low.0, high.1, start, width)

-- only one group has a club
pub one_group : (first club : ℕ) (groups : List Sheet) (results : List Results) (j k : ℕ)
    (one other : GroupState) → slice_get (states_from first groups results) j ≡ Some one
    → slice_get (states_from first groups results) k ≡ Some other
    → is_in_block one.block club ≡ true → is_in_block other.block club ≡ true → one ≡ other
one_group first club [] results j k one other here there inside inside_other =
    absurd (let c : None ≡ Some one = here in cc)
one_group first club (sheet ∷ groups) [] j k one other here there inside inside_other =
    absurd (let c : None ≡ Some one = here in cc)
one_group first club (sheet ∷ groups) (own ∷ results) zero zero one other here there inside
    inside_other =
    ap (λ found. unwrap_or found one) (sym here ∙ there)
one_group first club (sheet ∷ groups) (own ∷ results) zero (suc k) one other here there inside
    inside_other =
    absurd (apart first club sheet own groups results k one other
    (sym (ap (λ found. unwrap_or found one) here)) there inside inside_other)
one_group first club (sheet ∷ groups) (own ∷ results) (suc j) zero one other here there inside
    inside_other =
    absurd (apart first club sheet own groups results j other one
    (sym (ap (λ found. unwrap_or found other) there)) here inside_other inside)
one_group first club (sheet ∷ groups) (own ∷ results) (suc j) (suc k) one other here there inside
    inside_other =
    one_group (first + length sheet.clubs) club groups results j k one other here there inside
    inside_other
