-- A walk over the groups of a cup, each with its results: the next group, and those after it.
use Rattle.std.proofs.Common.{◌≡◌, ◌<◌, ℕ, zero, suc, ◌+◌, List, [], ◌∷◌, length, drop, refl}
use Rattle.std.proofs.Common.{sym, ap, ◌∙◌, subst, arith, slice_index_or, false, Bool, ◌&&◌}
use Rattle.std.proofs.Common.{nat_le}
use Rattle.std.specs.Prelude.{All}
use Rattle.std.specs.List.{list_any}
use Rattle.std.proofs.Math.Seq.{drop-cons}
use Rattle.std.proofs.lemmas.Bool.Decides.{nat_tests}
use Rattle.league_core.specs.declared.sheet.Sheet.{Sheet}
use Rattle.league_core.specs.game.Results.{Results}
use Rattle.league_core.specs.game.Seasons.{IsLeague}
use Rattle.cup_sheet.specs.declared.cup.Cup.{Cup}
use Rattle.cup_sheet.specs.Cups.{IsCup, IsGroup, AreSeasonsOf, clubs_together}
use Rattle.cup_sheet.specs.JointFinishes.{GroupState, is_in_block, states_from}
use Rattle.cup_finish.specs.inside.Contenders.{group_state}

-- there are results for each group
pub results_each : (groups : List Sheet) (results : List Results) → AreSeasonsOf groups results
    → length results ≡ length groups
results_each [] [] are = refl
results_each [] (own ∷ results) are = absurd are
results_each (group ∷ groups) [] are = absurd are
results_each (group ∷ groups) (own ∷ results) are = ap suc (results_each groups results are.1)

-- what is left of a list begins with the element at the place
left_from : {X : Type 0} (xs : List X) (k : ℕ) (x : X) → k < length xs
    → x ≡ slice_index_or xs k x → drop k xs ≡ x ∷ drop (k + 1) xs
left_from xs k x below is =
    let next : suc k ≡ k + 1 = omega arith in
    drop-cons xs k x below
    ∙ ap (λ it. it ∷ drop (suc k) xs) (sym is)
    ∙ ap (λ n. x ∷ drop n xs) next

-- what is left of results of groups are results of those that are left
are_left : (groups : List Sheet) (results : List Results) (k : ℕ) → AreSeasonsOf groups results
    → AreSeasonsOf (drop k groups) (drop k results)
are_left groups results zero are = are
are_left [] [] (suc k) are = tt
are_left [] (own ∷ results) (suc k) are = absurd are
are_left (group ∷ groups) [] (suc k) are = absurd are
are_left (group ∷ groups) (own ∷ results) (suc k) are = are_left groups results k are.1

-- the group at a place with its results, and what comes after it
pub record IsNextGroup (first k : ℕ) (groups : List Sheet) (results : List Results) (sheet : Sheet)
    (own : Results) : Type 0 where
  pub league : IsLeague sheet own
  pub states : states_from first (drop k groups) (drop k results)
      ≡ group_state first sheet own
      ∷ states_from (first + length sheet.clubs) (drop (k + 1) groups) (drop (k + 1) results)
  pub clubs : clubs_together (drop k groups)
      ≡ length sheet.clubs + clubs_together (drop (k + 1) groups)

next_group : (goal_limit budget first k : ℕ) (groups : List Sheet) (results : List Results)
    (sheet : Sheet) (own : Results) → All (IsGroup goal_limit budget) groups
    → AreSeasonsOf groups results → k < length groups → sheet ≡ slice_index_or groups k sheet
    → own ≡ slice_index_or results k own → IsNextGroup first k groups results sheet own
next_group goal_limit budget first k groups results sheet own all are below is own_is =
    let inside : k < length results = omega (arith, below, results_each groups results are) in
    let left = left_from groups k sheet below is in
    let own_left = left_from results k own inside own_is in
    let both = subst (λ (it : List Results). AreSeasonsOf (sheet ∷ drop (k + 1) groups) it) own_left
    (subst (λ (it : List Sheet). AreSeasonsOf it (drop k results)) left
    (are_left groups results k are)) in
    record {
      league = record {
        limits = (subst (IsGroup goal_limit budget) (sym is) (all k sheet below)).limits;
        of_sheet = both.0;
      };
      states = ap (λ (it : List Sheet). states_from first it (drop k results)) left
          ∙ ap (λ (it : List Results). states_from first (sheet ∷ drop (k + 1) groups) it) own_left;
      clubs = ap clubs_together left;
    }

-- the same at a walk over the groups of a cup
pub next_of_cup : (cup : Cup) (first k : ℕ) (groups : List Sheet) (results : List Results)
    (sheet : Sheet) (own : Results) → IsCup cup → AreSeasonsOf cup.groups results
    → groups ≡ cup.groups → k < length groups → sheet ≡ slice_index_or groups k sheet
    → own ≡ slice_index_or results k own → IsNextGroup first k cup.groups results sheet own
next_of_cup cup first k groups results sheet own is are same below here own_here =
    next_group is.groups.0 is.groups.1 first k cup.groups results sheet own is.groups.2 are
    (omega (arith, below, ap length same))
    (here ∙ ap (λ (all : List Sheet). slice_index_or all k sheet) same) own_here

-- the groups from a number on have none of the clubs before it
pub later_apart : (own : GroupState → Bool) (club first : ℕ) (groups : List Sheet)
    (results : List Results) → club < first
    → list_any (λ mine. is_in_block mine.block club && own mine) (states_from first groups results)
    ≡ false
later_apart own club first [] results before = refl
later_apart own club first (group ∷ groups) [] before = refl
later_apart own club first (group ∷ groups) (result ∷ results) before =
    let here : nat_le first club ≡ false = grind (arith, nat_tests) in
    let later = later_apart own club (first + length group.clubs) groups results
    (omega (arith, before)) in
    rw here later
