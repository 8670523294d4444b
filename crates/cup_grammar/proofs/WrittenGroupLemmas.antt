-- A group by its number in the cup, as a report is judged by it: where its numbers begin, that it
-- is a league, and that it is found with its clubs.
use Rattle.std.proofs.Common.{◌≡◌, ◌<◌, ◌≤◌, ℕ, zero, suc, ◌+◌, true, false, List}
use Rattle.std.proofs.Common.{[], ◌∷◌, length, Some, ap, ◌∙◌, subst, arith}
use Rattle.std.proofs.Common.{nat_le, nat_lt}
use Rattle.std.specs.Prelude.{All, IsTrue, if◌then◌else◌, slice_get}
use Rattle.std.proofs.lemmas.Bool.{and_right, le-ltb, lt-ltb}
use Rattle.std.proofs.lemmas.List.Elements.{All-head, All-tail}
use Rattle.league_core.specs.declared.sheet.Sheet.{Sheet}
use Rattle.league_core.specs.game.Results.{Results, are_results}
use Rattle.league_core.specs.game.Seasons.{IsLeague}
use Rattle.cup_sheet.specs.Cups.{AreSeasonsOf, IsGroup}
use Rattle.cup_sheet.specs.JointFinishes.{GroupState, states_from, states_of}
use Rattle.cup_groups.specs.declared.start.GroupStart.{GroupStart}
use Rattle.cup_groups.specs.GroupStarts.{clubs_before, fixtures_before, start_after, start_of_group}
use Rattle.cup_grammar.specs.PlacedGroups.{CupBasis, PlacedGroup, group_with, has_placed_club}
use Rattle.cup_grammar.specs.PlacedGroups.{placed_from, placed_groups}
use Rattle.cup_grammar.proofs.OwnNumberLemmas.{has_own_club}
use Rattle.cup_grammar.proofs.PlacedGroupLemmas.{placed_there}
use Rattle.cup_grammar.specs.inside.CupParts.{state_of_group}

-- a group of the cup with where its numbers begin
abbrev pub placed_by : GroupStart → GroupState → PlacedGroup
placed_by start group = record { start = start; sheet = group.sheet; season = group.results }

-- where the group of a number begins, if the first one begins here
abbrev start_from : GroupStart → List Sheet → ℕ → GroupStart
start_from start groups number = record {
  club = start.club + clubs_before groups number;
  fixture = start.fixture + fixtures_before groups number;
}

-- beginnings with the same numbers are the same
same_start : (one other : GroupStart) → one.club ≡ other.club → one.fixture ≡ other.fixture
    → one ≡ other
same_start one other clubs fixtures =
    ap (λ it. record { club = it; fixture = one.fixture }) clubs
    ∙ ap (λ it. record { club = other.club; fixture = it }) fixtures

placed_from-at : (start : GroupStart) (groups : List Sheet) (seasons : List Results) (number : ℕ)
    (group : GroupState) → slice_get (states_from start.club groups seasons) number ≡ Some group
    → slice_get (placed_from start groups seasons) number
    ≡ Some (placed_by (start_from start groups number) group)
placed_from-at start [] seasons number group there = absurd cc
placed_from-at start (sheet ∷ groups) [] number group there = absurd cc
placed_from-at start (sheet ∷ groups) (season ∷ seasons) zero group there =
    let head : GroupState = record {
      block = record { first = start.club; count = length sheet.clubs };
      sheet = sheet;
      results = season;
    } in
    let same : head ≡ group = cc in
    subst (λ it. slice_get (placed_from start (sheet ∷ groups) (season ∷ seasons)) 0
    ≡ Some (placed_by (start_from start (sheet ∷ groups) 0) it)) same
    (ap (λ it. Some (placed_by it head))
    (same_start start (start_from start (sheet ∷ groups) 0) (omega arith) (omega arith)))
placed_from-at start (sheet ∷ groups) (season ∷ seasons) (suc number) group there =
    placed_from-at (start_after start sheet) groups seasons number group there
    ∙ ap (λ it. Some (placed_by it group))
    (same_start (start_from (start_after start sheet) groups number)
    (start_from start (sheet ∷ groups) (suc number)) (omega arith) (omega arith))

-- the group of a number of the cup
pub placed_at : (basis : CupBasis) (number : ℕ) (group : GroupState)
    → slice_get (states_of basis.cup basis.seasons) number ≡ Some group
    → slice_get (placed_groups basis) number
    ≡ Some (placed_by (start_of_group basis.cup.groups number) group)
placed_at basis number group there =
    placed_from-at (record { club = 0; fixture = 0 }) basis.cup.groups basis.seasons number group
    there
    ∙ ap (λ it. Some (placed_by it group))
    (same_start (start_from (record { club = 0; fixture = 0 }) basis.cup.groups number)
    (start_of_group basis.cup.groups number) (omega arith) (omega arith))

-- its clubs begin where the cup has them
pub first_at : (basis : CupBasis) (number : ℕ) (group : GroupState)
    → slice_get (states_of basis.cup basis.seasons) number ≡ Some group
    → group.block.first ≡ (start_of_group basis.cup.groups number).club
first_at basis number group there =
    let placed = placed_by (start_of_group basis.cup.groups number) group in
    let also = placed_there basis number placed (placed_at basis number group there) in
    let same : group ≡ state_of_group placed = cc in
    ap (λ it. it.block.first) same

-- it is a league, with results that may be
pub league_at : (limit budget first : ℕ) (groups : List Sheet) (seasons : List Results)
    (number : ℕ) (group : GroupState) → All (IsGroup limit budget) groups
    → AreSeasonsOf groups seasons → All (λ season. IsTrue (are_results season)) seasons
    → slice_get (states_from first groups seasons) number ≡ Some group
    → IsLeague group.sheet group.results × (are_results group.results ≡ true)
league_at limit budget first [] seasons number group are each results there = absurd cc
league_at limit budget first (sheet ∷ groups) [] number group are each results there = absurd cc
league_at limit budget first (sheet ∷ groups) (season ∷ seasons) zero group are each results
    there =
    let head : GroupState = record {
      block = record { first = first; count = length sheet.clubs };
      sheet = sheet;
      results = season;
    } in
    let same : head ≡ group = cc in
    let is = All-head (IsGroup limit budget) sheet groups are in
    subst (λ it. IsLeague it.sheet it.results × (are_results it.results ≡ true)) same (
      record { limits = is.limits; of_sheet = each.0 },
      All-head (λ it. IsTrue (are_results it)) season seasons results,
    )
league_at limit budget first (sheet ∷ groups) (season ∷ seasons) (suc number) group are each results
    there =
    league_at limit budget (first + length sheet.clubs) groups seasons number group
    (All-tail (IsGroup limit budget) sheet groups are) each.1
    (All-tail (λ it. IsTrue (are_results it)) season seasons results) there

-- ---- the group of a club

-- later groups begin behind
begins_behind : (start : GroupStart) (groups : List Sheet) (seasons : List Results) (number : ℕ)
    (placed : PlacedGroup) → slice_get (placed_from start groups seasons) number ≡ Some placed
    → start.club ≤ placed.start.club
begins_behind start [] seasons number placed there = absurd cc
begins_behind start (sheet ∷ groups) [] number placed there = absurd cc
begins_behind start (sheet ∷ groups) (season ∷ seasons) zero placed there =
    let head : PlacedGroup = record { start = start; sheet = sheet; season = season } in
    let same : head ≡ placed = cc in subst (λ it. start.club ≤ it.start.club) same (omega arith)
begins_behind start (sheet ∷ groups) (season ∷ seasons) (suc number) placed there =
    let later = begins_behind (start_after start sheet) groups seasons number placed there in
    omega (arith, later)

found_from : (start : GroupStart) (groups : List Sheet) (seasons : List Results) (number own : ℕ)
    (placed : PlacedGroup) → slice_get (placed_from start groups seasons) number ≡ Some placed
    → own < length placed.sheet.clubs
    → group_with (placed_from start groups seasons) (placed.start.club + own) ≡ Some placed
found_from start [] seasons number own placed there within = absurd cc
found_from start (sheet ∷ groups) [] number own placed there within = absurd cc
found_from start (sheet ∷ groups) (season ∷ seasons) zero own placed there within =
    let head : PlacedGroup = record { start = start; sheet = sheet; season = season } in
    let same : head ≡ placed = cc in
    let has = has_own_club placed own (lt-ltb own (length placed.sheet.clubs) within) in
    let later = placed_from (start_after start sheet) groups seasons in
    ap (λ it. if has_placed_club it (placed.start.club + own) then Some it
    else group_with later (placed.start.club + own)) same
    ∙ ap (λ it. if it then Some placed else group_with later (placed.start.club + own)) has
found_from start (sheet ∷ groups) (season ∷ seasons) (suc number) own placed there within =
    let head : PlacedGroup = record { start = start; sheet = sheet; season = season } in
    let club = placed.start.club + own in
    let after = start_after start sheet in
    let behind = begins_behind after groups seasons number placed there in
    let past : nat_lt club (start.club + length sheet.clubs) ≡ false =
    le-ltb club (start.club + length sheet.clubs) (omega (arith, behind)) in
    let misses : has_placed_club head club ≡ false =
    and_right (nat_le start.club club) (nat_lt club (start.club + length sheet.clubs)) past in
    ap (λ it. if it then Some head else group_with (placed_from after groups seasons) club) misses
    ∙ found_from after groups seasons number own placed there within

-- a club of the group of a number is found in it
pub found_with_club : (basis : CupBasis) (number own : ℕ) (group : GroupState)
    → slice_get (states_of basis.cup basis.seasons) number ≡ Some group
    → own < length group.sheet.clubs
    → group_with (placed_groups basis) ((start_of_group basis.cup.groups number).club + own)
    ≡ Some (placed_by (start_of_group basis.cup.groups number) group)
found_with_club basis number own group there within =
    found_from (record { club = 0; fixture = 0 }) basis.cup.groups basis.seasons number own
    (placed_by (start_of_group basis.cup.groups number) group) (placed_at basis number group there)
    within
