-- How many clubs and fixtures the groups of a cup have, and the seasons that are cut out of one.
use Rattle.std.proofs.Common.{◌≡◌, ◌<◌, ◌≤◌, ℕ, suc, ◌+◌, ◌*◌, List, [], ◌∷◌}
use Rattle.std.proofs.Common.{length, map, drop, refl, sym, ap, ◌∙◌, arith, ◌&&◌, ◌==◌, not}
use Rattle.std.proofs.Common.{nat_lt, slice_index_or, subst, Option}
use Rattle.std.specs.Prelude.{All}
use Rattle.std.proofs.lemmas.Bool.{and_parts, ltb-true}
use Rattle.std.proofs.lemmas.List.{length-append, length-map, length-take-le, length-drop}
use Rattle.league_core.specs.declared.sheet.Sheet.{Sheet}
use Rattle.league_core.specs.declared.sheet.Fixture.{Fixture}
use Rattle.league_core.specs.game.Sheets.{IsWithinLimits, is_fixture}
use Rattle.league_core.proofs.plain.Lists.{list_all-at}
use Rattle.league_core.specs.declared.season.Score.{Score}
use Rattle.league_core.specs.game.Results.{Results}
use Rattle.league_core.specs.game.Seasons.{IsSeasonOf}
use Rattle.cup_sheet.specs.declared.cup.Cup.{Cup}
use Rattle.cup_sheet.specs.Cups.{IsCup, IsGroup, AreSeasonsOf, clubs_of_groups, clubs_together}
use Rattle.cup_sheet.specs.CupFeeds.{fixture_in_cup, fixtures_from, joint_sheet}
use Rattle.cup_sheet.specs.CupFeeds.{results_by_group}
use Rattle.cup_feed.specs.inside.GroupLimits.{AreWithinLimits, fixtures_together}

-- a fixture of a sheet within the limits is one of two of its clubs
pub fixture_clubs : (group : Sheet) (k : ℕ) (d : Fixture) → IsWithinLimits group
    → k < length group.fixtures
    → ((slice_index_or group.fixtures k d).home < length group.clubs)
    × ((slice_index_or group.fixtures k d).away < length group.clubs)
fixture_clubs group k d limits below =
    let fixture = slice_index_or group.fixtures k d in
    let clubs = length group.clubs in
    let is = list_all-at (is_fixture clubs) group.fixtures k d below limits.fixtures in
    let both = and_parts (nat_lt fixture.home clubs && nat_lt fixture.away clubs)
    (not (fixture.home == fixture.away)) is in
    let sides = and_parts (nat_lt fixture.home clubs) (nat_lt fixture.away clubs) both.0 in
    (ltb-true fixture.home clubs sides.0, ltb-true fixture.away clubs sides.1)

-- the clubs of all groups
pub length-clubs_of_groups : (groups : List Sheet)
    → length (clubs_of_groups groups) ≡ clubs_together groups
length-clubs_of_groups [] = refl
length-clubs_of_groups (group ∷ groups) =
    let rest = length-clubs_of_groups groups in
    let both = length-append group.clubs (clubs_of_groups groups) in
    omega (arith, rest, both)

-- their fixtures
pub length-fixtures_from : (first : ℕ) (groups : List Sheet)
    → length (fixtures_from first groups) ≡ fixtures_together groups
length-fixtures_from first [] = refl
length-fixtures_from first (group ∷ groups) =
    let rest = length-fixtures_from (first + length group.clubs) groups in
    let own = length-map group.fixtures (fixture_in_cup first) in
    let both = length-append (map (fixture_in_cup first) group.fixtures)
    (fixtures_from (first + length group.clubs) groups) in
    omega (arith, rest, own, both)

-- the groups of a cup are within the limits
pub groups_within : (cup : Cup) → IsCup cup → AreWithinLimits cup.groups
groups_within cup is = λ k d below. (is.groups.2 k d below).limits

-- groups have so many clubs at most
few_clubs : (goal_limit budget : ℕ) (groups : List Sheet) → All (IsGroup goal_limit budget) groups
    → clubs_together groups ≤ 6 * length groups
few_clubs goal_limit budget [] all = omega arith
few_clubs goal_limit budget (group ∷ groups) all =
    let here = all 0 group (omega arith) in
    let rest = few_clubs goal_limit budget groups
    (λ k d below. all (suc k) d (omega (arith, below))) in
    omega (arith, here.most_clubs, rest)

-- and so many fixtures
few_fixtures : (goal_limit budget : ℕ) (groups : List Sheet)
    → All (IsGroup goal_limit budget) groups → fixtures_together groups ≤ 60 * length groups
few_fixtures goal_limit budget [] all = omega arith
few_fixtures goal_limit budget (group ∷ groups) all =
    let here = all 0 group (omega arith) in
    let rest = few_fixtures goal_limit budget groups
    (λ k d below. all (suc k) d (omega (arith, below))) in
    omega (arith, here.most_fixtures, rest)

-- a cup has at most 72 clubs
pub cup_clubs : (cup : Cup) → IsCup cup → clubs_together cup.groups ≤ 72
cup_clubs cup is =
    omega (arith, few_clubs is.groups.0 is.groups.1 cup.groups is.groups.2, is.most_groups)

-- and at most 720 fixtures
pub cup_fixtures : (cup : Cup) → IsCup cup → fixtures_together cup.groups ≤ 720
cup_fixtures cup is =
    omega (arith, few_fixtures is.groups.0 is.groups.1 cup.groups is.groups.2, is.most_groups)

-- what is cut out of a season of all groups is a season of each
pub cut_seasons : (groups : List Sheet) (results : Results)
    → length results.scores ≡ fixtures_together groups
    → length results.deductions ≡ clubs_together groups
    → AreSeasonsOf groups (results_by_group groups results)
cut_seasons [] results scores deductions = tt
cut_seasons (group ∷ groups) results scores deductions =
    let fixtures = length group.fixtures in
    let clubs = length group.clubs in (
      record {
        scores = length-take-le fixtures results.scores (omega (arith, scores));
        deductions = length-take-le clubs results.deductions (omega (arith, deductions));
      },
      cut_seasons groups
          (record {
            scores = drop fixtures results.scores;
            deductions = drop clubs results.deductions;
          })
          (rest fixtures results.scores (fixtures_together groups) scores)
          (rest clubs results.deductions (clubs_together groups) deductions),
    )
  where
    rest : {X : Type 0} (n : ℕ) (xs : List X) (more : ℕ) → length xs ≡ n + more
        → length (drop n xs) ≡ more
    rest n xs more whole = omega (arith, whole, length-drop n xs)

-- so what is cut out of a season of the joint sheet are seasons of the groups
pub seasons_cut : (cup : Cup) (season : Results) (seasons : List Results) (groups : List Sheet)
    (scores : List (Option Score)) (deductions : List ℕ) → IsSeasonOf (joint_sheet cup) season
    → groups ≡ cup.groups → scores ≡ season.scores → deductions ≡ season.deductions
    → seasons ≡ results_by_group groups (record { scores = scores; deductions = deductions })
    → AreSeasonsOf cup.groups seasons
seasons_cut cup season seasons groups scores deductions of_sheet is all taken cut =
    subst (AreSeasonsOf cup.groups)
    (sym (cut
    ∙ ap (λ it. results_by_group it (record { scores = scores; deductions = deductions })) is
    ∙ ap (λ it. results_by_group cup.groups (record { scores = it; deductions = deductions })) all
    ∙ ap (λ it. results_by_group cup.groups (record { scores = season.scores; deductions = it }))
    taken))
    (cut_seasons cup.groups season (of_sheet.scores ∙ length-fixtures_from 0 cup.groups)
    (of_sheet.deductions ∙ length-clubs_of_groups cup.groups))
