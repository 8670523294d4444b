-- A group of a cup with its season, by its number: it is a league, and its clubs and fixtures have
-- numbers that a cup has.
use Rattle.std.proofs.Common.{◌≡◌, ◌<◌, ◌≤◌, ℕ, zero, suc, ◌+◌, true, List, [], ◌∷◌, length, Some}
use Rattle.std.proofs.Common.{slice_get, refl, sym, ap, subst}
use Rattle.std.specs.Prelude.{Contains}
use Rattle.std.proofs.lemmas.Option.{none-some, same_Some, slice_get_within, get_or_from_slice_get}
use Rattle.std.proofs.lemmas.Option.{slice_get_read}
use Rattle.league_core.specs.declared.sheet.Sheet.{Sheet}
use Rattle.league_core.specs.game.Results.{Results, are_results}
use Rattle.league_core.specs.game.Seasons.{IsLeague}
use Rattle.cup_sheet.specs.declared.cup.Cup.{Cup}
use Rattle.cup_sheet.specs.Cups.{IsCup, AreSeasonsOf}
use Rattle.cup_sheet.specs.JointFinishes.{GroupState, states_from, states_of}
use Rattle.cup_groups.specs.GroupStarts.{clubs_before, fixtures_before, start_of_group}
use Rattle.cup_groups.proofs.StartLemmas.{start_room}
use Rattle.cup_laws.specs.inside.CupTruths.{AreCupResults}
use Rattle.runners_up.proofs.AnyEndLemmas.{each_league}

-- the group with this number
pub record IsGroupOfCup (cup : Cup) (seasons : List Results) (number : ℕ) (sheet : Sheet)
    (season : Results) : Type 0 where
  pub there : slice_get cup.groups number ≡ Some sheet
  pub season_there : slice_get seasons number ≡ Some season
  pub inside : number < length cup.groups
  pub league : IsLeague sheet season
  pub results : are_results season ≡ true
  pub clubs : clubs_before cup.groups number + length sheet.clubs ≤ 72
  pub fixtures : fixtures_before cup.groups number + length sheet.fixtures ≤ 720

-- the parts of a group's state
state_parts : (first : ℕ) (groups : List Sheet) (seasons : List Results) (number : ℕ)
    (state : GroupState) → slice_get (states_from first groups seasons) number ≡ Some state
    → (slice_get groups number ≡ Some state.sheet) × (slice_get seasons number ≡ Some state.results)
state_parts first [] seasons number state there = absurd (none-some state there)
state_parts first (group ∷ groups) [] number state there = absurd (none-some state there)
state_parts first (group ∷ groups) (season ∷ seasons) zero state there =
    let head : GroupState = record {
      block = record { first = first; count = length group.clubs };
      sheet = group;
      results = season;
    } in
    let same : head ≡ state = same_Some head state there in (
      ap (λ (it : GroupState). Some it.sheet) same,
      ap (λ (it : GroupState). Some it.results) same,
    )
state_parts first (group ∷ groups) (season ∷ seasons) (suc number) state there =
    state_parts (first + length group.clubs) groups seasons number state there

module _ (cup : Cup) (seasons : List Results) (is_cup : IsCup cup)
    (of_seasons : AreSeasonsOf cup.groups seasons) (results : AreCupResults seasons) where
  pub group_of_cup : (number : ℕ) (sheet : Sheet) (season : Results)
      → slice_get cup.groups number ≡ Some sheet → slice_get seasons number ≡ Some season
      → IsGroupOfCup cup seasons number sheet season
  group_of_cup number sheet season there season_there =
      let inside = slice_get_within cup.groups number sheet there in
      let is = sym (get_or_from_slice_get cup.groups number sheet sheet there) in
      let season_is = sym (get_or_from_slice_get seasons number season season season_there) in
      let room = start_room cup number (start_of_group cup.groups number) sheet is_cup inside refl
      is in
      record {
        there = there;
        season_there = season_there;
        inside = inside;
        league =
            each_league is_cup.groups.0 is_cup.groups.1 cup.groups seasons number sheet season
            is_cup.groups.2 of_seasons inside is season_is;
        results =
            subst (λ (it : Results). are_results it ≡ true) (sym season_is)
            (results number season (slice_get_within seasons number season season_there));
        clubs = room.0;
        fixtures = room.1;
      }

  pub group_of_state : (number : ℕ) (state : GroupState)
      → slice_get (states_of cup seasons) number ≡ Some state
      → IsGroupOfCup cup seasons number state.sheet state.results
  group_of_state number state there =
      let parts = state_parts 0 cup.groups seasons number state there in
      group_of_cup number state.sheet state.results parts.0 parts.1

  -- each of its groups has a number
  pub group_with_number : (state : GroupState) → Contains (states_of cup seasons) state
      → (number : ℕ) × IsGroupOfCup cup seasons number state.sheet state.results
  group_with_number state has = (
    has.0,
    group_of_state has.0 state
        (slice_get_read (states_of cup seasons) (length (states_of cup seasons)) has.0 state refl
        has.1 (sym has.2)),
  )
