-- A side that is refuted or not settled, as the cup's answer says it.
use Rattle.std.proofs.Common.{◌≡◌, ◌<◌, ◌≤◌, ℕ, zero, suc, ◌+◌, ℤ, List, [], ◌∷◌}
use Rattle.std.proofs.Common.{length, take, Some, inr, refl, sym, ap, ◌∙◌, arith}
use Rattle.std.specs.Prelude.{All, slice_get}
use Rattle.std.proofs.lemmas.Option.{none-some, same_Some, slice_get_within}
use Rattle.std.proofs.lemmas.Option.{get_or_from_slice_get}
use Rattle.league_core.specs.declared.sheet.Sheet.{Sheet}
use Rattle.league_core.specs.declared.question.Claim.{Claim}
use Rattle.league_core.specs.game.Results.{Results}
use Rattle.cup_sheet.specs.declared.cup.Cup.{Cup}
use Rattle.cup_sheet.specs.CupAnswers.{AreRising, IsClubOf, IsListedGroup, listed_groups}
use Rattle.cup_sheet.specs.Cups.{IsCup}
use Rattle.cup_sheet.specs.JointFinishes.{GroupState, states_from, states_of}
use Rattle.group_search.specs.inside.GroupTasks.{new_group_tree}
use Rattle.runners_up.specs.declared.survey.EmptyGroup.{EmptyGroup}
use Rattle.cup_groups.specs.declared.seat.ClubSeat.{ClubSeat}
use Rattle.cup_groups.specs.inside.ClubSeats.{IsSeatOf}
use Rattle.runners_up.specs.inside.GroupsAsked.{other_question}
use Rattle.runners_up.specs.inside.GroupSurveys.{IsEmptyGroup, group_numbers}
use Rattle.cup_groups.specs.GroupStarts.{clubs_before}
use Rattle.runners_up.specs.inside.SideLaws.{RefutedSidesAreRefuted}
use Rattle.runners_up.specs.inside.SideLaws.{OpenGroupsLeaveSidesOpen}
use Rattle.runners_up.specs.inside.SidesByPlace.{IsOwnGroup}
use Rattle.runners_up.proofs.JointDrawnLemmas.{not_one_start}
use Rattle.runners_up.proofs.JointShownLemmas.{starts_differ}

-- ---- lists

-- the first so many
take_count : {X : Type 0} (n : ℕ) (xs : List X) → n ≤ length xs → length (take n xs) ≡ n
take_count zero [] few = refl
take_count zero (x ∷ xs) few = refl
take_count (suc n) [] few = absurd (omega (arith, few))
take_count (suc n) (x ∷ xs) few = ap suc (take_count n xs (omega (arith, few)))

-- they rise too
take_rises : (least n : ℕ) (numbers : List ℕ) → AreRising least numbers
    → AreRising least (take n numbers)
take_rises least zero [] rising = tt
take_rises least zero (number ∷ numbers) rising = tt
take_rises least (suc n) [] rising = tt
take_rises least (suc n) (number ∷ numbers) rising =
    (rising.0, take_rises (number + 1) n numbers rising.1)

-- as many numbers as groups
numbers_count : (listed : List EmptyGroup) → length (group_numbers listed) ≡ length listed
numbers_count [] = refl
numbers_count (group ∷ listed) = ap suc (numbers_count listed)

-- a list has an element at each place
some_at : {X : Type 0} (xs : List X) (k : ℕ) → k < length xs → (x : X) × (slice_get xs k ≡ Some x)
some_at [] k inside = absurd (omega (arith, inside))
some_at (x ∷ xs) zero inside = (x, refl)
some_at (x ∷ xs) (suc k) inside = some_at xs k (omega (arith, inside))

-- what holds of each group holds of the first numbers
numbers_are : (P : EmptyGroup → Type 0) (Q : ℕ → Type 0) (n : ℕ) (listed : List EmptyGroup)
    → ((group : EmptyGroup) → P group → Q group.group) → All P listed
    → All Q (take n (group_numbers listed))
numbers_are P Q zero [] each all k d inside = absurd (omega (arith, inside))
numbers_are P Q zero (group ∷ listed) each all k d inside = absurd (omega (arith, inside))
numbers_are P Q (suc n) [] each all k d inside = absurd (omega (arith, inside))
numbers_are P Q (suc n) (group ∷ listed) each all zero d inside =
    each group (all 0 group (omega arith))
numbers_are P Q (suc n) (group ∷ listed) each all (suc k) d inside =
    numbers_are P Q n listed each (λ i e within. all (suc i) e (omega (arith, within))) k d
    (omega (arith, inside))

-- ---- groups with their seasons

-- a group with its season, after so many clubs
abbrev pub state_in : ℕ → Sheet → Results → GroupState
state_in first sheet season = record {
  block = record { first = first; count = length sheet.clubs };
  sheet = sheet;
  results = season;
}

-- it stands in its place
season_there : (first : ℕ) (groups : List Sheet) (seasons : List Results) (number : ℕ)
    (sheet : Sheet) (season : Results) → slice_get groups number ≡ Some sheet
    → slice_get seasons number ≡ Some season
    → slice_get (states_from first groups seasons) number
    ≡ Some (state_in (first + clubs_before groups number) sheet season)
season_there first [] seasons number sheet season there own_there = absurd (none-some sheet there)
season_there first (group ∷ groups) [] number sheet season there own_there =
    absurd (none-some season own_there)
season_there first (group ∷ groups) (own ∷ seasons) zero sheet season there own_there =
    let same = same_Some group sheet there in
    let same_season = same_Some own season own_there in
    let at : first ≡ first + 0 = omega arith in
    (λ i. Some (state_in (at i) (same i) (same_season i)))
season_there first (group ∷ groups) (own ∷ seasons) (suc number) sheet season there own_there =
    let at : (first + length group.clubs) + clubs_before groups number
    ≡ first + (length group.clubs + clubs_before groups number) = omega arith in
    season_there (first + length group.clubs) groups seasons number sheet season there own_there
    ∙ ap (λ (n : ℕ). Some (state_in n sheet season)) at

pub state_of_number : (cup : Cup) (seasons : List Results) (number : ℕ) (sheet : Sheet)
    (season : Results) → slice_get cup.groups number ≡ Some sheet
    → slice_get seasons number ≡ Some season
    → slice_get (states_of cup seasons) number
    ≡ Some (state_in (clubs_before cup.groups number) sheet season)
state_of_number cup seasons number sheet season there own_there =
    let at : 0 + clubs_before cup.groups number ≡ clubs_before cup.groups number = omega arith in
    season_there 0 cup.groups seasons number sheet season there own_there
    ∙ ap (λ (n : ℕ). Some (state_in n sheet season)) at

-- ---- the side

-- a group without a candidate on the far side is one that can be listed
empty_is_listed : (cup : Cup) (seasons : List Results) (claim : Claim) (key : List ℤ) (mine : ℕ)
    (sheet : Sheet) (season : Results) → IsCup cup → slice_get cup.groups mine ≡ Some sheet
    → (group : EmptyGroup) → IsEmptyGroup cup seasons claim key mine group
    → IsListedGroup cup seasons claim (state_in (clubs_before cup.groups mine) sheet season) key
    group.group
empty_is_listed cup seasons claim key mine sheet season is_cup there group empty = (
  state_in (clubs_before cup.groups group.group) empty.sheet empty.season,
  state_of_number cup seasons group.group empty.sheet empty.season empty.other.there
      empty.other.season_there,
  starts_differ (clubs_before cup.groups group.group) (clubs_before cup.groups mine)
      (λ same. not_one_start cup group.group mine empty.sheet sheet is_cup empty.other.there there
      empty.other.differ same),
  λ other inside.
      let count = empty.count in
      let found = some_at group.trees.items other (omega (arith, inside, count)) in
      let shown = empty.refuted other found.0 found.1 in
      (new_group_tree shown.cases, shown.refuted),
)

-- the club is one of the cup's
pub club_of : (cup : Cup) (seasons : List Results) (club : ℕ) (seat : ClubSeat) (sheet : Sheet)
    (season : Results) → IsSeatOf cup club seat → IsOwnGroup cup seasons seat sheet season
    → IsClubOf cup seasons club (state_in (clubs_before cup.groups seat.group) sheet season)
    seat.own
club_of cup seasons club seat sheet season at own =
    let mine = state_in (clubs_before cup.groups seat.group) sheet season in
    let there = state_of_number cup seasons seat.group sheet season own.there own.season_there in
    let same = same_Some at.seat_in.sheet sheet (sym at.seat_in.there ∙ own.there) in
    let count = at.seat_in.count ∙ ap (λ (it : Sheet). length it.clubs) same in
    record {
      group_of = (
        seat.group,
        slice_get_within (states_of cup seasons) seat.group mine there,
        get_or_from_slice_get (states_of cup seasons) seat.group mine mine there,
      );
      own_club = omega (arith, at.seat_in.inside, count);
      number = omega (arith, at.number, at.seat_in.first);
    }

pub sides_are_refuted : RefutedSidesAreRefuted
sides_are_refuted cup seasons claim club seat key place nearer listed is_cup at is =
    let mine = state_in (clubs_before cup.groups seat.group) is.sheet is.season in
    let enough = is.enough in
    record {
      mine = mine;
      own = seat.own;
      of_club = club_of cup seasons club seat is.sheet is.season at is.own;
      place = (new_group_tree is.by_place.cases, is.by_place.refuted);
      nearer = (new_group_tree is.by_key.cases, is.by_key.refuted);
      count = take_count (listed_groups cup claim) (group_numbers listed)
          (omega (arith, enough, numbers_count listed));
      rising = take_rises 0 (listed_groups cup claim) (group_numbers listed) is.rising;
      others = numbers_are (IsEmptyGroup cup seasons claim key seat.group)
          (IsListedGroup cup seasons claim mine key) (listed_groups cup claim) listed
          (empty_is_listed cup seasons claim key seat.group is.sheet is.season is_cup is.own.there)
          is.empty;
    }

pub sides_are_open : OpenGroupsLeaveSidesOpen
sides_are_open cup seasons claim club seat key sheet season group is_cup at own turning is =
    let number : ℕ = group.group in
    let mine = state_in (clubs_before cup.groups seat.group) sheet season in
    let state = state_in (clubs_before cup.groups number) is.sheet is.season in
    let there = state_of_number cup seasons number is.sheet is.season is.other.there
    is.other.season_there in
    let question = other_question claim key is.spent.club in (
      state,
      question,
      new_group_tree is.spent.tree.cases,
      record {
        mine = mine;
        own = seat.own;
        of_club = club_of cup seasons club seat sheet season at own;
        group_of = (
          number,
          slice_get_within (states_of cup seasons) number state there,
          get_or_from_slice_get (states_of cup seasons) number state state there,
        );
        on_the_way = (
          key,
          turning,
          inr (
            starts_differ (clubs_before cup.groups number) (clubs_before cup.groups seat.group)
                (λ same. not_one_start cup number seat.group is.sheet sheet is_cup is.other.there
                own.there is.other.differ same),
            (is.spent.inside, refl, refl),
          ),
        );
        tree_spent = is.spent.tree.tree_spent;
        all_new = is.spent.tree.all_new;
      },
    )
