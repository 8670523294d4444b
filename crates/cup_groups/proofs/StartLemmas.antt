-- Groups one by one: how many clubs and fixtures are before the next; the first numbers of a group.
use Rattle.std.proofs.Common.{◌≡◌, ◌<◌, ◌≤◌, ℕ, zero, suc, ◌+◌, ◌*◌, List, [], ◌∷◌, length, ap, ◌∙◌}
use Rattle.std.proofs.Common.{arith, slice_index_or, refl, sym}
use Rattle.std.specs.Prelude.{All}
use Rattle.league_core.specs.declared.sheet.Sheet.{Sheet}
use Rattle.cup_sheet.specs.declared.cup.Cup.{Cup}
use Rattle.cup_sheet.specs.Cups.{IsCup, IsGroup, clubs_together}
use Rattle.cup_groups.specs.GroupStarts.{clubs_before, fixtures_before, start_of_group, start_after}
use Rattle.cup_groups.specs.declared.start.GroupStart.{GroupStart}

-- ---- clubs before a group

-- one group more
before_next : (groups : List Sheet) (number : ℕ) (d : Sheet) → number < length groups
    → clubs_before groups (suc number)
    ≡ clubs_before groups number + length (slice_index_or groups number d).clubs
before_next [] number d inside = absurd (omega (arith, inside))
before_next (group ∷ groups) zero d inside = one groups
  where
    one : (groups : List Sheet) → length group.clubs + clubs_before groups 0
        ≡ 0 + length group.clubs
    one [] = omega arith
    one (group ∷ groups) = omega arith
before_next (group ∷ groups) (suc number) d inside =
    let rest = before_next groups number d (omega (arith, inside)) in
    omega (arith, rest)

pub clubs_before-next : (groups : List Sheet) (number : ℕ) (d : Sheet) → number < length groups
    → clubs_before groups (number + 1)
    ≡ clubs_before groups number + length (slice_index_or groups number d).clubs
clubs_before-next groups number d inside =
    let at : number + 1 ≡ suc number = omega arith in
    ap (clubs_before groups) at ∙ before_next groups number d inside

-- all groups
pub clubs_before-all : (groups : List Sheet) → clubs_before groups (length groups)
    ≡ clubs_together groups
clubs_before-all [] = refl
clubs_before-all (group ∷ groups) = ap (λ (n : ℕ). length group.clubs + n) (clubs_before-all groups)

pub clubs_before-start : (groups : List Sheet) → clubs_before groups 0 ≡ 0
clubs_before-start [] = refl
clubs_before-start (group ∷ groups) = refl

-- ---- fixtures before a group

-- no group is before the first
pub fixtures_before-start : (groups : List Sheet) → fixtures_before groups 0 ≡ 0
fixtures_before-start [] = refl
fixtures_before-start (group ∷ groups) = refl

-- one group more
fixtures_next : (groups : List Sheet) (number : ℕ) (d : Sheet) → number < length groups
    → fixtures_before groups (suc number)
    ≡ fixtures_before groups number + length (slice_index_or groups number d).fixtures
fixtures_next [] number d inside = absurd (omega (arith, inside))
fixtures_next (group ∷ groups) zero d inside =
    let none = fixtures_before-start groups in
    omega (arith, none)
fixtures_next (group ∷ groups) (suc number) d inside =
    let rest = fixtures_next groups number d (omega (arith, inside)) in
    omega (arith, rest)

pub fixtures_before-next : (groups : List Sheet) (number : ℕ) (d : Sheet) → number < length groups
    → fixtures_before groups (number + 1)
    ≡ fixtures_before groups number + length (slice_index_or groups number d).fixtures
fixtures_before-next groups number d inside =
    let at : number + 1 ≡ suc number = omega arith in
    ap (fixtures_before groups) at ∙ fixtures_next groups number d inside

-- groups have so many clubs at most
clubs_few : (goal_limit budget : ℕ) (groups : List Sheet) (number : ℕ)
    → All (IsGroup goal_limit budget) groups → clubs_before groups number ≤ 6 * length groups
clubs_few goal_limit budget [] number all = omega arith
clubs_few goal_limit budget (group ∷ groups) zero all = omega arith
clubs_few goal_limit budget (group ∷ groups) (suc number) all =
    let here = all 0 group (omega arith) in
    let rest = clubs_few goal_limit budget groups number
    (λ k d below. all (suc k) d (omega (arith, below))) in
    omega (arith, here.most_clubs, rest)

-- and so many fixtures
fixtures_few : (goal_limit budget : ℕ) (groups : List Sheet) (number : ℕ)
    → All (IsGroup goal_limit budget) groups → fixtures_before groups number ≤ 60 * length groups
fixtures_few goal_limit budget [] number all = omega arith
fixtures_few goal_limit budget (group ∷ groups) zero all = omega arith
fixtures_few goal_limit budget (group ∷ groups) (suc number) all =
    let here = all 0 group (omega arith) in
    let rest = fixtures_few goal_limit budget groups number
    (λ k d below. all (suc k) d (omega (arith, below))) in
    omega (arith, here.most_fixtures, rest)

-- a cup has at most 72 clubs
pub first_club_few : (cup : Cup) (number : ℕ) → IsCup cup → clubs_before cup.groups number ≤ 72
first_club_few cup number is =
    omega (
      arith,
      clubs_few is.groups.0 is.groups.1 cup.groups number is.groups.2,
      is.most_groups,
    )

-- and at most 720 fixtures
pub first_fixture_few : (cup : Cup) (number : ℕ) → IsCup cup
    → fixtures_before cup.groups number ≤ 720
first_fixture_few cup number is =
    omega (
      arith,
      fixtures_few is.groups.0 is.groups.1 cup.groups number is.groups.2,
      is.most_groups,
    )

-- the first group starts at the first club and the first fixture
pub start_of_first : (groups : List Sheet)
    → record { club = 0; fixture = 0 } ≡ start_of_group groups 0
start_of_first [] = refl
start_of_first (group ∷ groups) = refl

-- the group after one starts behind it
pub start_of_next : (groups : List Sheet) (number : ℕ) (group : Sheet) → number < length groups
    → group ≡ slice_index_or groups number group
    → start_after (start_of_group groups number) group ≡ start_of_group groups (number + 1)
start_of_next groups number group inside is =
    let clubs : clubs_before groups (number + 1) ≡ clubs_before groups number + length group.clubs =
    clubs_before-next groups number group inside
    ∙ ap (λ (it : Sheet). clubs_before groups number + length it.clubs) (sym is) in
    let fixtures : fixtures_before groups (number + 1)
    ≡ fixtures_before groups number + length group.fixtures =
    fixtures_before-next groups number group inside
    ∙ ap (λ (it : Sheet). fixtures_before groups number + length it.fixtures) (sym is) in
    ap (λ n. record { club = n; fixture = fixtures_before groups number + length group.fixtures })
    (sym clubs)
    ∙ ap (λ n. record { club = clubs_before groups (number + 1); fixture = n }) (sym fixtures)

-- a group ends within the numbers of a cup
pub start_room : (cup : Cup) (number : ℕ) (start : GroupStart) (group : Sheet) → IsCup cup
    → number < length cup.groups → start ≡ start_of_group cup.groups number
    → group ≡ slice_index_or cup.groups number group
    → (start.club + length group.clubs ≤ 72) × (start.fixture + length group.fixtures ≤ 720)
start_room cup number start group is inside here there =
    let next = ap (λ s. start_after s group) here
    ∙ start_of_next cup.groups number group inside there in
    let clubs : start.club + length group.clubs ≡ clubs_before cup.groups (number + 1) =
    ap (λ (s : GroupStart). s.club) next in
    let fixtures : start.fixture + length group.fixtures
    ≡ fixtures_before cup.groups (number + 1) =
    ap (λ (s : GroupStart). s.fixture) next in (
      omega (arith, clubs, first_club_few cup (number + 1) is),
      omega (arith, fixtures, first_fixture_few cup (number + 1) is),
    )

-- after the last group all clubs are counted
pub count_of_last : (cup : Cup) (number : ℕ) (start : GroupStart) (group : Sheet)
    → number + 1 ≡ length cup.groups → start ≡ start_of_group cup.groups number
    → group ≡ slice_index_or cup.groups number group
    → start.club + length group.clubs ≡ clubs_together cup.groups
count_of_last cup number start group last here there =
    let inside : number < length cup.groups = omega (arith, last) in
    let next = ap (λ s. start_after s group) here
    ∙ start_of_next cup.groups number group inside there in
    ap (λ (s : GroupStart). s.club) next ∙ ap (clubs_before cup.groups) last
    ∙ clubs_before-all cup.groups

-- they are few
pub few_in_all : (cup : Cup) → IsCup cup → clubs_together cup.groups ≤ 72
few_in_all cup is =
    let all = clubs_before-all cup.groups in
    omega (arith, all, first_club_few cup (length cup.groups) is)
