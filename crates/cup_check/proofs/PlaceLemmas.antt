-- The groups of a cup with their places: the one at a number, the one of a club, and the name of a
-- club.
use Rattle.std.proofs.Common.{◌≡◌, ◌<◌, ◌≤◌, ℕ, zero, suc, ◌+◌, ◌-◌, Bool, true, false, List, []}
use Rattle.std.proofs.Common.{◌∷◌, ◌++◌, length, map, get_or, Some, None, refl, sym}
use Rattle.std.proofs.Common.{ap, ◌∙◌, arith, slice_index_or, drop, subst, not}
use Rattle.std.specs.Prelude.{slice_get, unwrap_or, if◌then◌else◌, nat_le, nat_lt, ◌&&◌, ◌||◌, ◌==◌}
use Rattle.std.specs.List.{list_all, list_any}
use Rattle.std.proofs.lemmas.Bool.{and_parts, ltb-true}
use Rattle.std.proofs.lemmas.List.{length-map, map-append, get_or_append_left}
use Rattle.std.proofs.lemmas.List.{get_or-append_right, drop_all}
use Rattle.league_core.specs.declared.sheet.Sheet.{Sheet}
use Rattle.league_core.specs.declared.sheet.Club.{Club}
use Rattle.league_core.specs.game.Results.{Results}
use Rattle.league_core.specs.game.Seasons.{IsSeasonOf}
use Rattle.cup_sheet.specs.declared.cup.Cup.{Cup}
use Rattle.cup_sheet.specs.Cups.{AreSeasonsOf, IsCup, IsGroup, clubs_of_groups, clubs_together}
use Rattle.cup_groups.specs.declared.start.GroupStart.{GroupStart}
use Rattle.cup_groups.specs.GroupStarts.{clubs_before, fixtures_before, start_after}
use Rattle.cup_groups.specs.GroupStarts.{start_of_group}
use Rattle.cup_groups.proofs.StartLemmas.{start_room}
use Rattle.cup_grammar.specs.PlacedGroups.{CupBasis, PlacedGroup, group_with, groups_at}
use Rattle.cup_grammar.specs.PlacedGroups.{has_placed_club, placed_from, placed_groups}
use Rattle.cup_check.specs.inside.CupSideCalls.{are_others}
use Rattle.cup_check.specs.inside.GroupPlaces.{IsPlaced}

-- ---- one group

placed_here : (start : GroupStart) (groups : List Sheet) (seasons : List Results) (number : ℕ)
    (d : Sheet) (e : Results) → number < length groups → AreSeasonsOf groups seasons
    → slice_get (placed_from start groups seasons) number ≡ Some (record {
      start = record {
        club = start.club + clubs_before groups number;
        fixture = start.fixture + fixtures_before groups number;
      };
      sheet = slice_index_or groups number d;
      season = slice_index_or seasons number e;
    })
placed_here start [] seasons number d e inside are = absurd (omega (arith, inside))
placed_here start (group ∷ groups) [] number d e inside are = absurd are
placed_here start (group ∷ groups) (season ∷ seasons) zero d e inside are =
    let clubs : start.club ≡ start.club + 0 = omega arith in
    let fixtures : start.fixture ≡ start.fixture + 0 = omega arith in
    λ i. Some (record {
      start = record { club = clubs i; fixture = fixtures i };
      sheet = group;
      season = season;
    })
placed_here start (group ∷ groups) (season ∷ seasons) (suc number) d e inside are =
    let clubs : start.club + length group.clubs + clubs_before groups number
    ≡ start.club + (length group.clubs + clubs_before groups number) = omega arith in
    let fixtures : start.fixture + length group.fixtures + fixtures_before groups number
    ≡ start.fixture + (length group.fixtures + fixtures_before groups number) = omega arith in
    placed_here (start_after start group) groups seasons number d e (omega (arith, inside)) are.1
    ∙ (λ i. Some (record {
      start = record { club = clubs i; fixture = fixtures i };
      sheet = slice_index_or groups number d;
      season = slice_index_or seasons number e;
    }))

-- the group of a number
pub placed_at : (basis : CupBasis) (number : ℕ) (d : Sheet) (e : Results)
    → number < length basis.cup.groups → AreSeasonsOf basis.cup.groups basis.seasons
    → slice_get (placed_groups basis) number ≡ Some (record {
      start = start_of_group basis.cup.groups number;
      sheet = slice_index_or basis.cup.groups number d;
      season = slice_index_or basis.seasons number e;
    })
placed_at basis number d e inside are =
    let groups = basis.cup.groups in
    let clubs : 0 + clubs_before groups number ≡ clubs_before groups number = omega arith in
    let fixtures : 0 + fixtures_before groups number ≡ fixtures_before groups number =
    omega arith in
    placed_here (record { club = 0; fixture = 0 }) groups basis.seasons number d e inside are
    ∙ (λ i. Some (record {
      start = record { club = clubs i; fixture = fixtures i };
      sheet = slice_index_or groups number d;
      season = slice_index_or basis.seasons number e;
    }))

length_from : (start : GroupStart) (groups : List Sheet) (seasons : List Results)
    → AreSeasonsOf groups seasons → length (placed_from start groups seasons) ≡ length groups
length_from start [] [] are = refl
length_from start [] (season ∷ seasons) are = absurd are
length_from start (group ∷ groups) [] are = absurd are
length_from start (group ∷ groups) (season ∷ seasons) are =
    ap suc (length_from (start_after start group) groups seasons are.1)

-- there are as many as the cup has groups
pub length-placed : (basis : CupBasis) → AreSeasonsOf basis.cup.groups basis.seasons
    → length (placed_groups basis) ≡ length basis.cup.groups
length-placed basis are =
    length_from (record { club = 0; fixture = 0 }) basis.cup.groups basis.seasons are

-- as many seasons as groups
pub length-seasons : (groups : List Sheet) (seasons : List Results) → AreSeasonsOf groups seasons
    → length seasons ≡ length groups
length-seasons [] [] are = refl
length-seasons [] (season ∷ seasons) are = absurd are
length-seasons (group ∷ groups) [] are = absurd are
length-seasons (group ∷ groups) (season ∷ seasons) are =
    ap suc (length-seasons groups seasons are.1)

-- ---- the group of a club

-- where no group has a club, it is past the last
none_with : (start : GroupStart) (groups : List Sheet) (seasons : List Results) (club : ℕ)
    → AreSeasonsOf groups seasons → start.club ≤ club
    → group_with (placed_from start groups seasons) club ≡ None
    → start.club + clubs_together groups ≤ club
none_with start [] seasons club are from none = omega (arith, from)
none_with start (group ∷ groups) [] club are from none = absurd are
none_with start (group ∷ groups) (season ∷ seasons) club are from none =
    by_test (λ past later. none_with (start_after start group) groups seasons club are.1 past later)
    (has_placed_club here club) refl none
  where
    here : PlacedGroup
    here = record { start = start; sheet = group; season = season }

    by_test : (start.club + length group.clubs ≤ club
        → group_with (placed_from (start_after start group) groups seasons) club ≡ None
        → start.club + length group.clubs + clubs_together groups ≤ club)
        → (test : Bool) → has_placed_club here club ≡ test
        → (if test then Some here
        else group_with (placed_from (start_after start group) groups seasons) club) ≡ None
        → start.club + (length group.clubs + clubs_together groups) ≤ club
    by_test rest true is some = absurd cc
    by_test rest false is later =
        let past = behind start.club (length group.clubs) club from is in
        omega (arith, rest past later)
      where
        behind : (first count it : ℕ) → first ≤ it
            → (nat_le first it && nat_lt it (first + count)) ≡ false → first + count ≤ it
        behind first count it after out = grind (arith, out)

-- a club of the cup plays in a group
pub some_with : (basis : CupBasis) (club : ℕ) → AreSeasonsOf basis.cup.groups basis.seasons
    → club < clubs_together basis.cup.groups → group_with (placed_groups basis) club ≡ None → ⊥
some_with basis club are inside none =
    let past = none_with (record { club = 0; fixture = 0 }) basis.cup.groups basis.seasons club are
    (omega arith) none in
    absurd (omega (arith, past, inside))

abbrev name_of : Club → List ℕ
name_of club = club.name

named_from : (start : GroupStart) (groups : List Sheet) (seasons : List Results) (club : ℕ)
    (mine : PlacedGroup) → start.club ≤ club
    → group_with (placed_from start groups seasons) club ≡ Some mine
    → get_or (map name_of (clubs_of_groups groups)) (club - start.club) []
    ≡ get_or (map name_of mine.sheet.clubs) (club - mine.start.club) []
named_from start [] seasons club mine from found = absurd cc
named_from start (group ∷ groups) [] club mine from found = absurd cc
named_from start (group ∷ groups) (season ∷ seasons) club mine from found =
    by_test (λ past later. named_from (start_after start group) groups seasons club mine past later)
    (has_placed_club here club) refl found
  where
    here : PlacedGroup
    here = record { start = start; sheet = group; season = season }

    own : List (List ℕ)
    own = map name_of group.clubs

    later : List (List ℕ)
    later = map name_of (clubs_of_groups groups)

    all : map name_of (group.clubs ++ clubs_of_groups groups) ≡ own ++ later
    all = map-append name_of group.clubs (clubs_of_groups groups)

    many : length own ≡ length group.clubs
    many = length-map group.clubs name_of

    by_test : (start.club + length group.clubs ≤ club
        → group_with (placed_from (start_after start group) groups seasons) club ≡ Some mine
        → get_or later (club - (start.club + length group.clubs)) []
        ≡ get_or (map name_of mine.sheet.clubs) (club - mine.start.club) [])
        → (test : Bool) → has_placed_club here club ≡ test
        → (if test then Some here
        else group_with (placed_from (start_after start group) groups seasons) club) ≡ Some mine
        → get_or (map name_of (group.clubs ++ clubs_of_groups groups)) (club - start.club) []
        ≡ get_or (map name_of mine.sheet.clubs) (club - mine.start.club) []
    by_test onward true is some =
        let same : here ≡ mine = cc in
        let both = and_parts (nat_le start.club club)
        (nat_lt club (start.club + length group.clubs)) is in
        let below = ltb-true club (start.club + length group.clubs) both.1 in
        ap (λ names. get_or names (club - start.club) []) all
        ∙ get_or_append_left own later [] (club - start.club) (omega (arith, below, many, from))
        ∙ ap (λ (it : PlacedGroup). get_or (map name_of it.sheet.clubs) (club - it.start.club) [])
        same
    by_test onward false is rest =
        let past = behind start.club (length group.clubs) club from is in
        let less : club - start.club - length group.clubs
        ≡ club - (start.club + length group.clubs) = omega (arith, past) in
        ap (λ names. get_or names (club - start.club) []) all
        ∙ get_or-append_right own later (length group.clubs) (club - start.club) [] many
        (omega (arith, past))
        ∙ ap (λ place. get_or later place []) less
        ∙ onward past rest
      where
        behind : (first count it : ℕ) → first ≤ it
            → (nat_le first it && nat_lt it (first + count)) ≡ false → first + count ≤ it
        behind first count it after out = grind (arith, out)

-- the name of a club is that which it has in its group
pub name_there : (basis : CupBasis) (club : ℕ) (mine : PlacedGroup)
    → group_with (placed_groups basis) club ≡ Some mine
    → get_or (map (λ (it : Club). it.name) (clubs_of_groups basis.cup.groups)) club []
    ≡ get_or (map (λ (it : Club). it.name) mine.sheet.clubs) (club - mine.start.club) []
name_there basis club mine found =
    let none : club ≡ club - 0 = omega arith in
    ap (λ place. get_or (map name_of (clubs_of_groups basis.cup.groups)) place []) none
    ∙ named_from (record { club = 0; fixture = 0 }) basis.cup.groups basis.seasons club mine
    (omega arith) found

-- ---- groups in a list

-- a listed group stands before the later ones
pub groups_at-cons : (groups : List PlacedGroup) (number : ℕ) (numbers : List ℕ)
    (group : PlacedGroup) → slice_get groups number ≡ Some group
    → groups_at groups (number ∷ numbers) ≡ group ∷ groups_at groups numbers
groups_at-cons groups number numbers group there = rw there refl

-- what is dropped before an element
pub drop_at : {X : Type 0} (xs : List X) (k : ℕ) (x : X) → slice_get xs k ≡ Some x
    → drop k xs ≡ x ∷ drop (k + 1) xs
drop_at xs k x there =
    let next : k + 1 ≡ suc k = omega arith in
    there_at xs k x there ∙ ap (λ n. x ∷ drop n xs) (sym next)
  where
    there_at : {Y : Type 0} (ys : List Y) (n : ℕ) (y : Y) → slice_get ys n ≡ Some y
        → drop n ys ≡ y ∷ drop (suc n) ys
    there_at [] n y is = absurd (let c : None ≡ Some y = is in cc)
    there_at (first ∷ ys) zero y is =
        ap (λ it. it ∷ ys) (ap (λ found. unwrap_or found first) is)
    there_at (first ∷ ys) (suc n) y is = there_at ys n y is

-- a group that does not have the club is passed over
pub with_more : (groups : List PlacedGroup) (number : ℕ) (group : PlacedGroup) (club : ℕ)
    → slice_get groups number ≡ Some group → has_placed_club group club ≡ false
    → group_with (drop number groups) club ≡ group_with (drop (number + 1) groups) club
with_more groups number group club there out =
    ap (λ it. group_with it club) (drop_at groups number group there)
    ∙ ap (λ test. if test then Some group else group_with (drop (number + 1) groups) club) out

-- one that has it is found
pub with_here : (groups : List PlacedGroup) (number : ℕ) (group : PlacedGroup) (club : ℕ)
    → slice_get groups number ≡ Some group → has_placed_club group club ≡ true
    → group_with (drop number groups) club ≡ Some group
with_here groups number group club there has =
    ap (λ it. group_with it club) (drop_at groups number group there)
    ∙ ap (λ test. if test then Some group else group_with (drop (number + 1) groups) club) has

-- behind the last there is none
pub with_none : (groups : List PlacedGroup) (number club : ℕ) → length groups ≤ number
    → group_with (drop number groups) club ≡ None
with_none groups number club all = ap (λ it. group_with it club) (drop_all number groups all)

-- the season of a group is one of it
season_at : (groups : List Sheet) (seasons : List Results) (number : ℕ) (d : Sheet) (e : Results)
    → AreSeasonsOf groups seasons → number < length groups
    → IsSeasonOf (slice_index_or groups number d) (slice_index_or seasons number e)
season_at [] [] number d e are inside = absurd (omega (arith, inside))
season_at [] (season ∷ seasons) number d e are inside = absurd are
season_at (group ∷ groups) [] number d e are inside = absurd are
season_at (group ∷ groups) (season ∷ seasons) zero d e are inside = are.0
season_at (group ∷ groups) (season ∷ seasons) (suc number) d e are inside =
    season_at groups seasons number d e are.1 (omega (arith, inside))

-- a group of the cup with its place
pub placed_is : (cup : Cup) (seasons : List Results) (number : ℕ) (place : PlacedGroup)
    → IsCup cup → AreSeasonsOf cup.groups seasons → number < length cup.groups
    → place.start ≡ start_of_group cup.groups number
    → place.sheet ≡ slice_index_or cup.groups number place.sheet
    → place.season ≡ slice_index_or seasons number place.season → IsPlaced place
placed_is cup seasons number place is are inside start sheet season =
    let here = is.groups.2 number place.sheet inside in
    let G : Sheet → Type 0 = IsGroup is.groups.0 is.groups.1 in
    let own : IsGroup is.groups.0 is.groups.1 place.sheet = subst G (sym sheet) here in
    let room = start_room cup number place.start place.sheet is inside start sheet in
    let S : Sheet → Type 0 = λ it. IsSeasonOf it place.season in
    let E : Results → Type 0 = λ it. IsSeasonOf (slice_index_or cup.groups number place.sheet) it in
    record {
      league = record {
        limits = own.limits;
        of_sheet = subst S (sym sheet) (subst E (sym season)
            (season_at cup.groups seasons number place.sheet place.season are inside));
      };
      least_clubs = own.least_clubs;
      few_clubs = own.most_clubs;
      few_fixtures = own.most_fixtures;
      clubs = room.0;
      fixtures = room.1;
    }

-- ---- the list of a side

-- a number of another group is passed over
pub others_more : (basis : CupBasis) (mine : PlacedGroup) (number : ℕ) (numbers : List ℕ)
    (group : PlacedGroup) → nat_lt number (length (placed_groups basis)) ≡ true
    → slice_get (placed_groups basis) number ≡ Some group
    → (group.start.club == mine.start.club) ≡ false
    → are_others basis mine (number ∷ numbers) ≡ are_others basis mine numbers
others_more basis mine number numbers group below there other =
    let own = λ (it : PlacedGroup). it.start.club == mine.start.club in
    let placed = placed_groups basis in
    let all = list_all (λ it. nat_lt it (length placed)) numbers in
    ap (λ it. (nat_lt number (length placed) && all) && not (list_any own it))
    (groups_at-cons placed number numbers group there)
    ∙ ap (λ test. (test && all) && not (own group || list_any own (groups_at placed numbers))) below
    ∙ ap (λ test. all && not (test || list_any own (groups_at placed numbers))) other

-- one of this group is not
pub own_is_none : (basis : CupBasis) (mine : PlacedGroup) (number : ℕ) (numbers : List ℕ)
    (group : PlacedGroup) → slice_get (placed_groups basis) number ≡ Some group
    → (group.start.club == mine.start.club) ≡ true
    → are_others basis mine (number ∷ numbers) ≡ false
own_is_none basis mine number numbers group there same =
    let own = λ (it : PlacedGroup). it.start.club == mine.start.club in
    let placed = placed_groups basis in
    let front = nat_lt number (length placed)
    && list_all (λ it. nat_lt it (length placed)) numbers in
    ap (λ it. front && not (list_any own it)) (groups_at-cons placed number numbers group there)
    ∙ ap (λ test. front && not (test || list_any own (groups_at placed numbers))) same
    ∙ and_false front
  where
    and_false : (test : Bool) → (test && false) ≡ false
    and_false true = refl
    and_false false = refl

-- nor is a number past the last group
pub past_is_none : (basis : CupBasis) (mine : PlacedGroup) (number : ℕ) (numbers : List ℕ)
    → nat_lt number (length (placed_groups basis)) ≡ false
    → are_others basis mine (number ∷ numbers) ≡ false
past_is_none basis mine number numbers past =
    ap (λ test. (test && list_all (λ it. nat_lt it (length (placed_groups basis))) numbers)
    && not (list_any (λ (it : PlacedGroup). it.start.club == mine.start.club)
    (groups_at (placed_groups basis) (number ∷ numbers)))) past

-- what all numbers of a list pass, each does
pub all_at : (test : ℕ → Bool) (numbers : List ℕ) (place : ℕ) → list_all test numbers ≡ true
    → place < length numbers → test (get_or numbers place 0) ≡ true
all_at test [] place all inside = absurd (omega (arith, inside))
all_at test (number ∷ numbers) zero all inside =
    (and_parts (test number) (list_all test numbers) all).0
all_at test (number ∷ numbers) (suc place) all inside =
    all_at test numbers place (and_parts (test number) (list_all test numbers) all).1
    (omega (arith, inside))
