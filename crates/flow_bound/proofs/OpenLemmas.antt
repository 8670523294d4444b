-- What a match adds to a club's entry is no more than what it leaves open for the club, and so for
-- all its matches: no more than what its most points are beyond its least.
use Rattle.std.proofs.Common.{◌≡◌, ◌≢◌, ℕ, suc, ◌<◌, ℤ, pos, ◌+ℤ◌, ◌-ℤ◌, ◌≤ℤ◌, Bool, true, false}
use Rattle.std.proofs.Common.{◌&&◌, cond, eqb, List, [], ◌∷◌, length, get_or, map, refl, sym, ap}
use Rattle.std.proofs.Common.{◌∙◌, arith}
use Rattle.std.proofs.lemmas.Int.{ints}
use Rattle.std.proofs.lemmas.Bool.{eqb-true}
use Rattle.league_core.specs.declared.season.Score.{Score}
use Rattle.league_core.specs.declared.sheet.Fixture.{Fixture}
use Rattle.league_core.specs.search.Options.{options_in, has_option}
use Rattle.league_core.specs.search.PointRanges.{Range, range_of, points_of_sides, points_together}
use Rattle.league_core.specs.search.PointRanges.{total_of, least_points_of, most_points_of}
use Rattle.league_core.specs.game.Sheets.{IsWithinLimits}
use Rattle.league_core.proofs.OptionLemmas.{length-options_from}
use Rattle.league_core.proofs.PointRangeLemmas.{least_reached, greatest_reached, range_bounds}
use Rattle.league_core.proofs.PointRangeLemmas.{range_of-same}
use Rattle.score_box.specs.inside.Ends.{alone_in}
use Rattle.score_box.specs.inside.ZoneBoxViews.{HasFinish, ZoneBoxView}
use Rattle.score_box.specs.inside.Unplayed.{unplayed_in}
use Rattle.score_box.proofs.EndLemmas.{alone_sides}
use Rattle.score_box.proofs.SplitLemmas.{end_at_fixture, greatest_end, keeps_played, least_end}
use Rattle.score_box.proofs.SplitLemmas.{no_match, range_split}
use Rattle.flow_bound.specs.declared.cut.Cut.{Cut}
use Rattle.flow_bound.specs.declared.cut.Cut.TheVariants.{Floor, Ceiling}
use Rattle.flow_bound.specs.inside.Fixtures.{pair_at, pairs_in, surplus_in}
use Rattle.flow_bound.specs.inside.Parts.{sum_of_pairs}
use Rattle.flow_bound.specs.inside.Network.{has_home_in, has_away_in}
use Rattle.flow_bound.proofs.PairsLemmas.{IsOpenAt, open_at_each, surplus_in-is}
use Rattle.flow_bound.proofs.PartLemmas.{sum_of_pairs-cons}

-- what options leave open: the most points of the sides that count, beyond the least
abbrev left_open : List Score → Bool → Bool → ℤ
left_open options home away =
    (range_of (points_of_sides home away) options).greatest
    -ℤ (range_of (points_of_sides home away) options).least

some_open : (options : List Score) (home away : Bool) → has_option options ≡ true
    → pos 0 ≤ℤ left_open options home away
some_open options home away some =
    let low = least_reached (points_of_sides home away) options some in
    let high = range_bounds (points_of_sides home away) options low.0 low.1 in
    omega (arith, ints, high.0, high.1)

-- the surplus of a match is no more than what it leaves open for either side
surplus_home : (cut : Cut) (options : List Score) → has_option options ≡ true
    → pos (surplus_in cut options) ≤ℤ left_open options true false
surplus_home Floor options some =
    let is = surplus_in-is Floor options some in
    let low = least_reached (points_of_sides false true) options some in
    let both = range_bounds (points_of_sides true true) options low.0 low.1 in
    let home = range_bounds (points_of_sides true false) options low.0 low.1 in
    omega (arith, ints, is, low.2, both.0, home.1)
surplus_home Ceiling options some =
    let is = surplus_in-is Ceiling options some in
    let high = greatest_reached (points_of_sides false true) options some in
    let both = range_bounds (points_of_sides true true) options high.0 high.1 in
    let home = range_bounds (points_of_sides true false) options high.0 high.1 in
    omega (arith, ints, is, high.2, both.1, home.0)

surplus_away : (cut : Cut) (options : List Score) → has_option options ≡ true
    → pos (surplus_in cut options) ≤ℤ left_open options false true
surplus_away Floor options some =
    let is = surplus_in-is Floor options some in
    let low = least_reached (points_of_sides true false) options some in
    let both = range_bounds (points_of_sides true true) options low.0 low.1 in
    let away = range_bounds (points_of_sides false true) options low.0 low.1 in
    omega (arith, ints, is, low.2, both.0, away.1)
surplus_away Ceiling options some =
    let is = surplus_in-is Ceiling options some in
    let high = greatest_reached (points_of_sides true false) options some in
    let both = range_bounds (points_of_sides true true) options high.0 high.1 in
    let away = range_bounds (points_of_sides false true) options high.0 high.1 in
    omega (arith, ints, is, high.2, both.1, away.0)

-- so for a club, whichever side it is
sides_open : (cut : Cut) (options : List Score) (inside home away : Bool)
    → has_option options ≡ true → (home ≡ true → away ≡ true → ⊥)
    → (pos (cond (inside && home) (surplus_in cut options) 0)
    +ℤ pos (cond (inside && away) (surplus_in cut options) 0))
    ≤ℤ left_open options home away
sides_open cut options inside true true some apart = absurd (apart refl refl)
sides_open cut options true true false some apart =
    let home = surplus_home cut options some in
    omega (arith, ints, home)
sides_open cut options true false true some apart =
    let away = surplus_away cut options some in
    omega (arith, ints, away)
sides_open cut options true false false some apart = some_open options false false some
sides_open cut options false home away some apart = some_open options home away some

-- one match, for a club
match_open : (cut : Cut) (options : List Score) (match : Fixture) (inside : Bool) (club : ℕ)
    → match.home ≢ match.away → has_option options ≡ true
    → (pos (cond (inside && eqb match.home club) (surplus_in cut options) 0)
    +ℤ pos (cond (inside && eqb match.away club) (surplus_in cut options) 0))
    ≤ℤ ((alone_in club match options).greatest -ℤ (alone_in club match options).least)
match_open cut options match inside club apart some =
    let same = range_of-same (points_together (club ∷ []) match)
    (points_of_sides (eqb match.home club) (eqb match.away club)) options
    (λ score. alone_sides club match score apart) in
    let least = ap (λ (r : Range). r.least) same in
    let most = ap (λ (r : Range). r.greatest) same in
    let here = sides_open cut options inside (eqb match.home club) (eqb match.away club) some
    (λ h a. apart (eqb-true match.home club h ∙ sym (eqb-true match.away club a))) in
    omega (arith, ints, least, most, here)

-- all the matches of some numbers
matches_open : (cut : Cut) (box : ZoneBoxView) (part : ℕ → Bool) (club : ℕ) (numbers : List ℕ)
    → ((k d : ℕ) → k < length numbers → IsOpenAt box (get_or numbers k d))
    → (pos (sum_of_pairs (has_home_in part (λ x. eqb x club)) (map (pair_at cut box) numbers))
    +ℤ pos (sum_of_pairs (has_away_in part (λ x. eqb x club)) (map (pair_at cut box) numbers)))
    ≤ℤ (total_of (end_at_fixture (λ range. range.greatest) (points_together (club ∷ []))
    box.sheet.fixtures (options_in box.sheet box.season box.zone)) numbers
    -ℤ total_of (end_at_fixture (λ range. range.least) (points_together (club ∷ []))
    box.sheet.fixtures (options_in box.sheet box.season box.zone)) numbers)
matches_open cut box part club [] each = omega (arith, ints)
matches_open cut box part club (number ∷ numbers) each =
    let options = get_or (options_in box.sheet box.season box.zone) number [] in
    let match = get_or box.sheet.fixtures number no_match in
    let open_at = each 0 number (omega arith) in
    let rest = matches_open cut box part club numbers
    (λ k d within. each (suc k) d (omega arith)) in
    let here = match_open cut options match (part match.home && part match.away) club open_at.0
    open_at.1 in
    let home = sum_of_pairs-cons (has_home_in part (λ x. eqb x club)) (pair_at cut box number)
    (map (pair_at cut box) numbers) in
    let away = sum_of_pairs-cons (has_away_in part (λ x. eqb x club)) (pair_at cut box number)
    (map (pair_at cut box) numbers) in
    omega (arith, ints, rest, here, home, away)

-- a club's pairs add no more than what its most points are beyond its least
pub pairs_open : (cut : Cut) (box : ZoneBoxView) (part : ℕ → Bool) (club : ℕ)
    → IsWithinLimits box.sheet → HasFinish box
    → length box.season.scores ≡ length box.sheet.fixtures
    → (pos (sum_of_pairs (has_home_in part (λ x. eqb x club)) (pairs_in cut box))
    +ℤ pos (sum_of_pairs (has_away_in part (λ x. eqb x club)) (pairs_in cut box)))
    ≤ℤ (most_points_of box.sheet box.season box.zone (club ∷ [])
    -ℤ least_points_of box.sheet box.season box.zone (club ∷ []))
unfolding pairs_in least_points_of most_points_of
pairs_open cut box part club limits finish many =
    let options = options_in box.sheet box.season box.zone in
    let long = length-options_from box.sheet.goal_limit box.zone 0 box.season.scores ∙ many in
    let keeps = keeps_played box.sheet box.season box.zone finish in
    let low = range_split (λ range. range.least) least_end (λ n. refl)
    (points_together (club ∷ [])) box.sheet.fixtures box.season.scores options many long keeps in
    let high = range_split (λ range. range.greatest) greatest_end (λ n. refl)
    (points_together (club ∷ [])) box.sheet.fixtures box.season.scores options many long keeps in
    let all = matches_open cut box part club (unplayed_in box.season.scores)
    (open_at_each box limits finish many) in
    omega (arith, ints, low, high, all)
