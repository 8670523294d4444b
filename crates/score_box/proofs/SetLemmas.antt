-- The match points of a set of clubs: what its clubs have in the table of what was played, and what
-- the fixtures that are not played leave them.
use Rattle.std.proofs.Common.{◌≡◌, ◌≢◌, ◌⊎◌, ℕ, suc, ◌*◌, ◌<◌, ◌≤◌, ℤ, pos, ◌+ℤ◌, ◌-ℤ◌, ◌≤ℤ◌}
use Rattle.std.proofs.Common.{Bool, true, List, [], ◌∷◌, length, Option, None, Some}
use Rattle.std.proofs.Common.{slice_index, refl, sym, ap, ◌∙◌, inl, inr, arith}
use Rattle.std.specs.List.{All, list_all}
use Rattle.std.proofs.lemmas.Int.{ints, clamps}
use Rattle.std.proofs.lemmas.Bool.{cases_lt, ne_eqb, eqb-true, leb-true, and_parts}
use Rattle.std.proofs.lemmas.List.{get_or_past}
use Rattle.league_core.specs.declared.sheet.Sheet.{Sheet}
use Rattle.league_core.specs.declared.sheet.Fixture.{Fixture}
use Rattle.league_core.specs.declared.season.Score.{Score}
use Rattle.league_core.specs.declared.zone.Literal.{Literal}
use Rattle.league_core.specs.game.Results.{Results, are_results, is_score_or_none}
use Rattle.league_core.specs.game.Seasons.{IsLeague}
use Rattle.league_core.specs.game.Sums.{has_club, match_points, worth_to, sum_over}
use Rattle.league_core.specs.game.ClubSets.{clubs_below, clubs_in}
use Rattle.league_core.specs.declared.club_set.ClubSet.{ClubSet}
use Rattle.league_core.proofs.ClubCountLemmas.{few_members}
use Rattle.league_core.proofs.plain.Lists.{list_all-at}
use Rattle.std.specs.Prelude.{nat_le}
use Rattle.league_core.specs.search.Options.{has_finish, has_option, options_in}
use Rattle.league_core.proofs.HalfLemmas.{root_has_finish}
use Rattle.league_core.specs.search.PointRanges.{Range, range_of, range_from, total_of}
use Rattle.league_core.specs.search.PointRanges.{points_together, points_of_sides, least_points_of}
use Rattle.league_core.specs.search.PointRanges.{most_points_of}
use Rattle.league_core.proofs.OptionLemmas.{length-options_from}
use Rattle.league_core.proofs.OutcomeLemmas.{outcome_cases}
use Rattle.league_core.proofs.PointRangeLemmas.{points_together-sides, total_of-same}
use Rattle.league_core.proofs.SumLemmas.{total_of-sum_over}
use Rattle.league_core.proofs.WorthLemmas.{points_at_win, points_at_draw, points_at_loss}
use Rattle.league_core.proofs.WorthLemmas.{won_points-most, drawn_points-most}
use Rattle.score_box.specs.declared.totals.Totals.{Totals}
use Rattle.score_box.specs.inside.Ends.{IsMatch, AreRanges, end_at, empty_in}
use Rattle.score_box.specs.inside.Points.{left_to}
use Rattle.score_box.specs.inside.Totals.{AreTables, totals_at, no_totals, points_column}
use Rattle.score_box.specs.inside.Unplayed.{unplayed_in}
use Rattle.score_box.proofs.EndLemmas.{IsSmall, matches_of, range_small}
use Rattle.score_box.proofs.SplitLemmas.{IsEnd, least_end, greatest_end, end_at_fixture}
use Rattle.score_box.proofs.SplitLemmas.{KeepsPlayed, keeps_played, range_split}
use Rattle.league_core.proofs.plain.Counts.{all_counted}

-- ---- the table of what was played

-- a number that is no club's has no points
sum_past : (club : ℕ) → 24 ≤ club → (matches : List Fixture) (scores : List (Option Score))
    → All IsMatch matches → sum_over (worth_to match_points club) matches scores ≡ pos 0
sum_past club past [] scores are = refl
sum_past club past (match ∷ matches) [] are = refl
sum_past club past (match ∷ matches) (None ∷ scores) are =
    let rest =
    sum_past club past matches scores (λ i d within. are (suc i) d (omega (arith, within)))
    in
    omega (arith, ints, rest)
sum_past club past (match ∷ matches) (Some score ∷ scores) are =
    let rest =
    sum_past club past matches scores (λ i d within. are (suc i) d (omega (arith, within)))
    in
    let here = are 0 match (omega arith) in
    let none : worth_to match_points club match score ≡ pos 0 =
    rw (
      ne_eqb match.home club (λ same. omega (arith, same, here.home)),
      ne_eqb match.away club (λ same. omega (arith, same, here.away)),
    ) refl in
    omega (arith, ints, none, rest)

-- the points of the clubs in the table are those of the set
table_points : (fixtures : List Fixture) (scores : List (Option Score))
    (rows pairs : List Totals) (clubs : List ℕ) → All IsMatch fixtures
    → AreTables fixtures scores rows pairs
    → total_of (λ club. (totals_at rows club).points) clubs
    ≡ sum_over (points_together clubs) fixtures scores
table_points fixtures scores rows pairs clubs matches tables =
    total_of-same (λ club. (totals_at rows club).points)
    (λ club. sum_over (worth_to match_points club) fixtures scores) clubs
    (λ club. each club (cases_lt club 24))
    ∙ total_of-sum_over (worth_to match_points) clubs fixtures scores
  where
    each : (club : ℕ) → (club < 24) ⊎ (24 ≤ club)
        → (totals_at rows club).points ≡ sum_over (worth_to match_points club) fixtures scores
    each club (inl below) = tables.each_club club below points_column
    each club (inr past) =
        ap (λ (t : Totals). t.points)
        (get_or_past rows club no_totals (omega (arith, past, tables.many_clubs)))
        ∙ sym (sum_past club past fixtures scores matches)

-- ---- both together

-- an end of what is left, with what was played, is that of all fixtures
with_played : (end : Range → ℤ) → IsEnd end
    → ((n : ℤ) → end (record { least = n; greatest = n }) ≡ n)
    → (fixtures : List Fixture) (scores : List (Option Score)) (options : List (List Score))
    (rows pairs : List Totals) (clubs : List ℕ) → length scores ≡ length fixtures
    → length options ≡ length fixtures → All IsMatch fixtures → KeepsPlayed scores options
    → AreTables fixtures scores rows pairs
    → total_of (λ club. (totals_at rows club).points) clubs
    +ℤ total_of (λ number. end (left_to clubs fixtures options number)) (unplayed_in scores)
    ≡ end (range_from (points_together clubs) fixtures options)
with_played end is one fixtures scores options rows pairs clubs many many_options matches keeps
    tables =
    ap (λ n. n +ℤ total_of (end_at_fixture end (points_together clubs) fixtures options)
    (unplayed_in scores)) (table_points fixtures scores rows pairs clubs matches tables)
    ∙ sym (range_split end is one (points_together clubs) fixtures scores options many many_options
    keeps)

-- the numbers that begin with the points of the table, and take what is left
pub first_ranges : (sheet : Sheet) (season : Results) (rows pairs : List Totals)
    (unplayed : List ℕ) (won lows highs : List ℤ) → IsLeague sheet season
    → AreTables sheet.fixtures season.scores rows pairs → unplayed ≡ unplayed_in season.scores
    → length lows ≡ 24 → length highs ≡ 24
    → ((club : ℕ) → club < 24 → end_at won club ≡ (totals_at rows club).points)
    → ((club : ℕ) → (end_at lows club ≡ end_at won club +ℤ total_of
    (λ k. (left_to (club ∷ []) sheet.fixtures (options_in sheet season []) k).least) unplayed)
    × (end_at highs club ≡ end_at won club +ℤ total_of
    (λ k. (left_to (club ∷ []) sheet.fixtures (options_in sheet season []) k).greatest) unplayed))
    → AreRanges sheet.fixtures (options_in sheet season []) lows highs
first_ranges sheet season rows pairs unplayed won lows highs league tables same many_lows many_highs
    won_is sums = record {
      many_lows = many_lows;
      many_highs = many_highs;
      least = λ club below.
          let all = with_played (λ r. r.least) least_end (λ n. refl) sheet.fixtures season.scores
          options rows pairs (club ∷ []) many many_options matches keeps tables in
          let open_are = ap (total_of
          (λ k. (left_to (club ∷ []) sheet.fixtures options k).least)) same in
          omega (arith, ints, (sums club).0, won_is club below, all, open_are);
      most = λ club below.
          let all = with_played (λ r. r.greatest) greatest_end (λ n. refl) sheet.fixtures
          season.scores options rows pairs (club ∷ []) many many_options matches keeps tables in
          let open_are = ap (total_of
          (λ k. (left_to (club ∷ []) sheet.fixtures options k).greatest)) same in
          omega (arith, ints, (sums club).1, won_is club below, all, open_are);
    }
  where
    options : List (List Score)
    options = options_in sheet season []

    many : length season.scores ≡ length sheet.fixtures
    many = league.of_sheet.scores

    many_options : length options ≡ length sheet.fixtures
    many_options = length-options_from sheet.goal_limit [] 0 season.scores ∙ many

    matches : All IsMatch sheet.fixtures
    matches = matches_of sheet league.limits

    keeps : KeepsPlayed season.scores options
    keeps = keeps_played sheet season [] (root_has_finish sheet season)

-- before any literal no fixture is without an option
pub none_empty : (sheet : Sheet) (season : Results) → empty_in (options_in sheet season []) ≡ 0
unfolding has_finish
none_empty sheet season =
    eqb-true (empty_in (options_in sheet season [])) 0
    (all_counted has_option (options_in sheet season []) ∙ root_has_finish sheet season)

-- less what is taken off, it is the points of the set
pub least_points-is : (sheet : Sheet) (season : Results) (zone : List Literal) (clubs : List ℕ)
    (points : ℤ) → points ≡ (range_from (points_together clubs) sheet.fixtures (options_in sheet
    season zone)).least -ℤ total_of (λ club. pos (slice_index season.deductions club)) clubs
    → points ≡ least_points_of sheet season zone clubs
unfolding least_points_of
least_points-is sheet season zone clubs points is = omega (arith, ints, is)

pub most_points-is : (sheet : Sheet) (season : Results) (zone : List Literal) (clubs : List ℕ)
    (points : ℤ) → points ≡ (range_from (points_together clubs) sheet.fixtures (options_in sheet
    season zone)).greatest -ℤ total_of (λ club. pos (slice_index season.deductions club)) clubs
    → points ≡ most_points_of sheet season zone clubs
unfolding most_points_of
most_points-is sheet season zone clubs points is = omega (arith, ints, is)

-- ---- bounds

-- a match gives its two sides at most three points together
sides_small : (home away : Bool) (score : Score) → IsSmall (points_of_sides home away score)
sides_small home away score =
    outcome_cases score
    (λ won. small (points_at_win home away score won) (won_points-most home))
    (λ drawn. small (points_at_draw home away score drawn) (drawn_points-most home away))
    (λ lost. small (points_at_loss home away score lost) (won_points-most away))
  where
    small : {points : ℕ} {value : ℤ} → value ≡ pos points → points ≤ 3 → IsSmall value
    small {points} {value} same few = (
      omega (arith, ints, same),
      omega (arith, ints, same, few),
    )

together_small : (bits : ℕ) (match : Fixture) (score : Score) → match.home ≢ match.away
    → IsSmall (points_together (clubs_below 32 bits) match score)
together_small bits match score apart =
    let same = points_together-sides bits match score apart in
    let small = sides_small (has_club (clubs_below 32 bits) match.home)
    (has_club (clubs_below 32 bits) match.away) score in
    (omega (arith, ints, same, small.0), omega (arith, ints, same, small.1))

-- the ends of a range are in order
range_ordered : (value : Score → ℤ) (options : List Score)
    → (range_of value options).least ≤ℤ (range_of value options).greatest
range_ordered value [] = omega (arith, ints)
range_ordered value (score ∷ []) = omega (arith, ints)
range_ordered value (score ∷ other ∷ options) = omega (arith, ints, clamps)

-- so a set has between none and three of each fixture
pub set_small : (bits : ℕ) (fixtures : List Fixture) (options : List (List Score))
    → All IsMatch fixtures
    → (pos 0 ≤ℤ (range_from (points_together (clubs_below 32 bits)) fixtures options).least)
    × ((range_from (points_together (clubs_below 32 bits)) fixtures options).least
    ≤ℤ (range_from (points_together (clubs_below 32 bits)) fixtures options).greatest)
    × ((range_from (points_together (clubs_below 32 bits)) fixtures options).greatest
    ≤ℤ pos (3 * length fixtures))
set_small bits [] options are =
    (omega (arith, ints), omega (arith, ints), omega (arith, ints))
set_small bits (match ∷ fixtures) [] are =
    (omega (arith, ints), omega (arith, ints), omega (arith, ints))
set_small bits (match ∷ fixtures) (scores ∷ options) are =
    let rest = set_small bits fixtures options
    (λ i d within. are (suc i) d (omega (arith, within))) in
    let apart = (are 0 match (omega arith)).apart in
    let here = range_small (points_together (clubs_below 32 bits) match)
    (λ score. together_small bits match score apart) scores in
    let ordered = range_ordered (points_together (clubs_below 32 bits) match) scores in (
      omega (arith, ints, here.0.0, rest.0),
      omega (arith, ints, ordered, rest.1),
      omega (arith, ints, here.1.1, rest.2),
    )

-- what is taken off a set is at most what a byte holds, of each club
pub taken_within : (season : Results) (set : ClubSet) → are_results season ≡ true
    → (pos 0 ≤ℤ total_of (λ club. pos (slice_index season.deductions club)) (clubs_in set))
    × (total_of (λ club. pos (slice_index season.deductions club)) (clubs_in set) ≤ℤ pos 8160)
taken_within season set are =
    let sum = over (clubs_in set) in
    let few = few_members set in
    (sum.0, omega (arith, ints, sum.1, few))
  where
    deductions : List ℕ
    deductions = season.deductions

    all : list_all (λ points. nat_le points 99) deductions ≡ true
    all = (and_parts (list_all is_score_or_none season.scores)
        (list_all (λ points. nat_le points 99) deductions) are).1

    one : (club : ℕ) → (club < length deductions) ⊎ (length deductions ≤ club)
        → slice_index deductions club ≤ 255
    one club (inl within) =
        let least = leb-true (slice_index deductions club) 99
        (list_all-at (λ points. nat_le points 99) deductions club 0 within all) in
        omega (arith, least)
    one club (inr past) = omega (arith, get_or_past deductions club 0 past)

    over : (clubs : List ℕ)
        → (pos 0 ≤ℤ total_of (λ club. pos (slice_index deductions club)) clubs)
        × (total_of (λ club. pos (slice_index deductions club)) clubs
        ≤ℤ pos (255 * length clubs))
    over [] = (omega (arith, ints), omega (arith, ints))
    over (club ∷ clubs) =
        let rest = over clubs in
        let here = one club (cases_lt club (length deductions)) in
        (omega (arith, ints, rest.0), omega (arith, ints, rest.1, here))
