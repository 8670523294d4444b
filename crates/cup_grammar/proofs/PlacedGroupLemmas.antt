-- The groups that a report is judged by are those of the cup: the group of a club, and the listed
-- ones by their numbers.
use Rattle.std.proofs.Common.{◌≡◌, ◌<◌, ◌≤◌, ℕ, suc, ◌+◌, Bool, true, false, List}
use Rattle.std.proofs.Common.{[], ◌∷◌, length, map, Some, refl, ap, ◌∙◌, subst}
use Rattle.std.proofs.Common.{arith, nat_le, nat_lt}
use Rattle.std.specs.Prelude.{slice_get, option_map, if◌then◌else◌}
use Rattle.std.proofs.lemmas.Bool.{and_parts, leb-true, ltb-true}
use Rattle.std.proofs.lemmas.Option.{slice_get-map, slice_get_within, get_or_from_slice_get}
use Rattle.league_core.specs.declared.sheet.Sheet.{Sheet}
use Rattle.league_core.specs.game.Results.{Results}
use Rattle.cup_groups.specs.declared.start.GroupStart.{GroupStart}
use Rattle.cup_groups.specs.GroupStarts.{start_after}
use Rattle.cup_sheet.specs.CupAnswers.{IsClubOf}
use Rattle.cup_sheet.specs.JointFinishes.{states_from, states_of}
use Rattle.cup_grammar.specs.PlacedGroups.{CupBasis, PlacedGroup, group_with, has_placed_club}
use Rattle.cup_grammar.specs.PlacedGroups.{own_club, placed_from, placed_groups}
use Rattle.cup_grammar.specs.inside.CupParts.{state_of_group}

-- the groups from one on are the same as those of the cup's definitions
states_from-placed : (start : GroupStart) (groups : List Sheet) (seasons : List Results)
    → states_from start.club groups seasons ≡ map state_of_group (placed_from start groups seasons)
states_from-placed start [] seasons = refl
states_from-placed start (group ∷ groups) [] = refl
states_from-placed start (group ∷ groups) (season ∷ seasons) =
    ap (λ later. state_of_group (record { start = start; sheet = group; season = season }) ∷ later)
    (states_from-placed (start_after start group) groups seasons)

-- a group of a number is that of the cup with this number
pub placed_there : (basis : CupBasis) (number : ℕ) (group : PlacedGroup)
    → slice_get (placed_groups basis) number ≡ Some group
    → slice_get (states_of basis.cup basis.seasons) number ≡ Some (state_of_group group)
placed_there basis number group there =
    ap (λ states. slice_get states number)
    (states_from-placed (record { club = 0; fixture = 0 }) basis.cup.groups basis.seasons)
    ∙ slice_get-map state_of_group (placed_groups basis) number
    ∙ ap (option_map state_of_group) there

-- the group with a club is one of the groups, and has the club
group_with-says : (groups : List PlacedGroup) (club : ℕ) (mine : PlacedGroup)
    → group_with groups club ≡ Some mine
    → (number : ℕ) × (slice_get groups number ≡ Some mine) × (has_placed_club mine club ≡ true)
group_with-says [] club mine found = absurd cc
group_with-says (group ∷ groups) club mine found =
    by_test (has_placed_club group club) refl found (group_with-says groups club mine)
  where
    by_test : (test : Bool) → has_placed_club group club ≡ test
        → (if test then Some group else group_with groups club) ≡ Some mine
        → (group_with groups club ≡ Some mine → (number : ℕ)
        × (slice_get groups number ≡ Some mine) × (has_placed_club mine club ≡ true))
        → (number : ℕ) × (slice_get (group ∷ groups) number ≡ Some mine)
        × (has_placed_club mine club ≡ true)
    by_test true has found later =
        let same : group ≡ mine = cc in
        (0, found, subst (λ it. has_placed_club it club ≡ true) same has)
    by_test false has found later =
        let there = later found in (suc there.0, there.1, there.2)

-- the club plays in the group that is found with it
pub club_of_group : (basis : CupBasis) (club : ℕ) (mine : PlacedGroup)
    → group_with (placed_groups basis) club ≡ Some mine
    → IsClubOf basis.cup basis.seasons club (state_of_group mine) (own_club mine club)
club_of_group basis club mine found =
    let is = group_with-says (placed_groups basis) club mine found in
    let there = placed_there basis is.0 mine is.1 in
    let ends = mine.start.club + length mine.sheet.clubs in
    let both = and_parts (nat_le mine.start.club club) (nat_lt club ends) is.2 in
    let least : mine.start.club ≤ club = leb-true mine.start.club club both.0 in
    let below : club < ends = ltb-true club ends both.1 in
    record {
      group_of = (
        is.0,
        slice_get_within (states_of basis.cup basis.seasons) is.0 (state_of_group mine) there,
        get_or_from_slice_get (states_of basis.cup basis.seasons) is.0 (state_of_group mine)
            (state_of_group mine) there,
      );
      own_club = omega (arith, least, below);
      number = omega (arith, least);
    }
