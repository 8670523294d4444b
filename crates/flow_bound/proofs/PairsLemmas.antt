-- The pairs of a box: one for each match that is not played, and together what the excess of a set
-- has beyond that of its clubs alone.
use Rattle.std.proofs.Common.{◌≡◌, ◌≢◌, ℕ, suc, ◌<◌, ℤ, pos, negsuc, ◌+ℤ◌, ◌-ℤ◌, ◌≤ℤ◌, Bool, true}
use Rattle.std.proofs.Common.{false, ◌&&◌, cond, List, [], ◌∷◌, length, get_or, map, refl, sym, ap}
use Rattle.std.proofs.Common.{◌∙◌, arith}
use Rattle.std.specs.List.{All}
use Rattle.std.proofs.lemmas.Int.{ints}
use Rattle.std.proofs.lemmas.List.{get_or-map, length-map}
use Rattle.league_core.specs.declared.club_set.ClubSet.{ClubSet}
use Rattle.league_core.specs.declared.season.Score.{Score}
use Rattle.league_core.specs.declared.sheet.Fixture.{Fixture}
use Rattle.league_core.specs.game.ClubSets.{clubs_in}
use Rattle.league_core.specs.search.Options.{options_in, has_option}
use Rattle.league_core.specs.search.PointRanges.{range_of, points_of_sides, total_of}
use Rattle.league_core.specs.game.Sheets.{IsWithinLimits}
use Rattle.league_core.proofs.OptionLemmas.{length-options_from}
use Rattle.league_core.proofs.PointRangeLemmas.{least_reached, greatest_reached, range_bounds}
use Rattle.league_core.proofs.RangeLemmas.{range_of-none}
use Rattle.league_core.proofs.LiteralLemmas.{option_at}
use Rattle.league_core.proofs.FixtureLemmas.{fixture_of_sheet}
use Rattle.score_box.specs.declared.cell.Cell.{Cell}
use Rattle.score_box.specs.inside.Cells.{IsCellOf}
use Rattle.score_box.specs.inside.ZoneBoxViews.{HasFinish, ZoneBoxView}
use Rattle.score_box.specs.inside.Unplayed.{unplayed_in}
use Rattle.score_box.proofs.SplitLemmas.{beyond_alone, beyond_at, beyond_of_sides, no_match}
use Rattle.score_box.proofs.SplitLemmas.{unplayed_in_range}
use Rattle.flow_bound.specs.declared.cut.Cut.{Cut}
use Rattle.flow_bound.specs.declared.cut.Cut.TheVariants.{Floor, Ceiling}
use Rattle.flow_bound.specs.declared.tally.Pair.{Pair}
use Rattle.flow_bound.specs.inside.Fixtures.{MatchWorth, IsWorthOf, above_nothing, beyond_over}
use Rattle.flow_bound.specs.inside.Fixtures.{end_of, pair_at, pairs_in, surplus_in}
use Rattle.flow_bound.specs.inside.Parts.{has_both, side_of, sum_of_pairs}
use Rattle.flow_bound.proofs.FixtureLemmas.{beyond_over-is, is_end}
use Rattle.flow_bound.proofs.PartLemmas.{sum_of_pairs-cons}
use Rattle.league_core.proofs.plain.Numbers.{cond_pos}

-- what options come to for the sides that count
abbrev pub at_sides : Cut → List Score → Bool → Bool → ℤ
at_sides cut options home away = end_of cut (range_of (points_of_sides home away) options)

-- beyond what each side comes to alone
abbrev pub beyond_sides : Cut → List Score → ℤ
beyond_sides cut options =
    at_sides cut options true true -ℤ at_sides cut options true false
    -ℤ at_sides cut options false true

natural : (number : ℤ) → pos 0 ≤ℤ number → pos (above_nothing number) ≡ number
natural (pos n) above = refl
natural (negsuc n) above = absurd (omega (arith, ints, above))

-- together sides come to no less than each alone
beyond_above : (cut : Cut) (options : List Score) → has_option options ≡ true
    → pos 0 ≤ℤ beyond_sides cut options
beyond_above Floor options some =
    let low = least_reached (points_of_sides true true) options some in
    let home = range_bounds (points_of_sides true false) options low.0 low.1 in
    let away = range_bounds (points_of_sides false true) options low.0 low.1 in
    omega (arith, ints, low.2, home.0, away.0)
beyond_above Ceiling options some =
    let high = greatest_reached (points_of_sides true true) options some in
    let home = range_bounds (points_of_sides true false) options high.0 high.1 in
    let away = range_bounds (points_of_sides false true) options high.0 high.1 in
    omega (arith, ints, high.2, home.1, away.1)

-- the surplus is what the sides come to beyond
pub surplus_in-is : (cut : Cut) (options : List Score) → has_option options ≡ true
    → pos (surplus_in cut options) ≡ beyond_sides cut options
unfolding surplus_in
surplus_in-is cut options some = natural (beyond_sides cut options) (beyond_above cut options some)

-- it is that of a cell's worth
pub worth_surplus : (cut : Cut) (cell : Cell) (options : List Score) (worth : MatchWorth)
    → IsWorthOf cut cell worth → IsCellOf cell options → worth.surplus ≡ surplus_in cut options
unfolding surplus_in
worth_surplus cut cell options worth is of_cell =
    let both = is.value options of_cell true true in
    let home = is.value options of_cell true false in
    let away = is.value options of_cell false true in
    let beyond : pos worth.surplus ≡ beyond_sides cut options =
    omega (arith, ints, both, home, away) in
    ap above_nothing beyond

-- a match adds to a set what its sides come to beyond, if the set has both clubs
beyond_is : (cut : Cut) (options : List Score) (set : ClubSet) (match : Fixture)
    → match.home ≢ match.away
    → beyond_alone (end_of cut) (clubs_in set) match options
    ≡ cond (side_of set match.home && side_of set match.away) (beyond_sides cut options) (pos 0)
beyond_is cut options set match apart =
    beyond_of_sides (end_of cut) set.bits match options (at_sides cut options true false)
    (at_sides cut options false true) (beyond_sides cut options) apart come
  where
    come : (h a : Bool) → at_sides cut options h a
        ≡ cond h (at_sides cut options true false) (pos 0)
        +ℤ cond a (at_sides cut options false true) (pos 0)
        +ℤ cond (h && a) (beyond_sides cut options) (pos 0)
    come true true = omega (arith, ints)
    come true false = omega (arith, ints)
    come false true = omega (arith, ints)
    come false false = ap (end_of cut) (range_of-none options) ∙ (is_end cut).none

-- the match of a number has two clubs, and an option
abbrev pub IsOpenAt : ZoneBoxView → ℕ → Type 0
IsOpenAt box number =
    ((get_or box.sheet.fixtures number no_match).home
    ≢ (get_or box.sheet.fixtures number no_match).away)
    × (has_option (get_or (options_in box.sheet box.season box.zone) number []) ≡ true)

-- the pairs of some matches are what these add beyond
pairs_at_sum : (cut : Cut) (box : ZoneBoxView) (set : ClubSet) (numbers : List ℕ)
    → ((k d : ℕ) → k < length numbers → IsOpenAt box (get_or numbers k d))
    → pos (sum_of_pairs (has_both (side_of set)) (map (pair_at cut box) numbers))
    ≡ total_of (beyond_at (end_of cut) (clubs_in set) box.sheet.fixtures
    (options_in box.sheet box.season box.zone)) numbers
pairs_at_sum cut box set [] each = refl
pairs_at_sum cut box set (number ∷ numbers) each =
    let options = get_or (options_in box.sheet box.season box.zone) number [] in
    let match = get_or box.sheet.fixtures number no_match in
    let both = side_of set match.home && side_of set match.away in
    let open_at = each 0 number (omega arith) in
    let rest = pairs_at_sum cut box set numbers (λ k d within. each (suc k) d (omega arith)) in
    let here = beyond_is cut options set match open_at.0 in
    let surplus = ap (λ n. cond both n (pos 0)) (surplus_in-is cut options open_at.1) in
    let counted = cond_pos both (surplus_in cut options) in
    let sum = sum_of_pairs-cons (has_both (side_of set)) (pair_at cut box number)
    (map (pair_at cut box) numbers) in
    omega (arith, ints, rest, here, surplus, counted, sum)

-- each match that is not played is one of the sheet, and has an option
pub open_at_each : (box : ZoneBoxView) → IsWithinLimits box.sheet → HasFinish box
    → length box.season.scores ≡ length box.sheet.fixtures → (k d : ℕ)
    → k < length (unplayed_in box.season.scores)
    → IsOpenAt box (get_or (unplayed_in box.season.scores) k d)
open_at_each box limits finish many k d within =
    let number = get_or (unplayed_in box.season.scores) k d in
    let low = unplayed_in_range box.season.scores k d within in
    let long = length-options_from box.sheet.goal_limit box.zone 0 box.season.scores in (
      (fixture_of_sheet box.sheet number no_match limits (omega (arith, low, many))).2,
      option_at box.sheet box.season box.zone number finish (omega (arith, low, long)),
    )

-- the pairs of a box are what its matches add beyond
pub pairs_in-sum : (cut : Cut) (box : ZoneBoxView) (set : ClubSet) → IsWithinLimits box.sheet
    → HasFinish box → length box.season.scores ≡ length box.sheet.fixtures
    → pos (sum_of_pairs (has_both (side_of set)) (pairs_in cut box))
    ≡ beyond_over cut box.sheet box.season box.zone (clubs_in set)
unfolding pairs_in
pairs_in-sum cut box set limits finish many =
    pairs_at_sum cut box set (unplayed_in box.season.scores) (open_at_each box limits finish many)
    ∙ sym (beyond_over-is cut box.sheet box.season box.zone (clubs_in set) many finish)

-- how many they are, and which
pub length-pairs_in : (cut : Cut) (box : ZoneBoxView)
    → length (pairs_in cut box) ≡ length (unplayed_in box.season.scores)
unfolding pairs_in
length-pairs_in cut box = length-map (unplayed_in box.season.scores) (pair_at cut box)

pub pairs_in-at : (cut : Cut) (box : ZoneBoxView) (i d : ℕ) (blank : Pair)
    → i < length (unplayed_in box.season.scores)
    → get_or (pairs_in cut box) i blank ≡ pair_at cut box (get_or (unplayed_in box.season.scores) i
    d)
unfolding pairs_in
pairs_in-at cut box i d blank within =
    get_or-map (pair_at cut box) (unplayed_in box.season.scores) i d blank within

-- each has two clubs
pub pairs_in-apart : (cut : Cut) (box : ZoneBoxView) → IsWithinLimits box.sheet → HasFinish box
    → length box.season.scores ≡ length box.sheet.fixtures
    → All (λ pair. pair.home ≢ pair.away) (pairs_in cut box)
pairs_in-apart cut box limits finish many k d within =
    let is = pairs_in-at cut box k 0 d (omega (arith, within, length-pairs_in cut box)) in
    let two = open_at_each box limits finish many k 0
    (omega (arith, within, length-pairs_in cut box)) in
    λ same. two.0 (sym (ap (λ (p : Pair). p.home) is) ∙ same ∙ ap (λ (p : Pair). p.away) is)

-- the pair of a match with a surplus
abbrev pub made_of : Fixture → ℕ → Pair
made_of match surplus = record { home = match.home; away = match.away; surplus = surplus }

-- it is that of the match of a number
pub pair_is : (cut : Cut) (box : ZoneBoxView) (number surplus : ℕ) (match : Fixture)
    → match ≡ get_or box.sheet.fixtures number no_match
    → surplus ≡ surplus_in cut (get_or (options_in box.sheet box.season box.zone) number [])
    → made_of match surplus ≡ pair_at cut box number
pair_is cut box number surplus match same is =
    ap (λ (m : Fixture). made_of m surplus) same
    ∙ ap (made_of (get_or box.sheet.fixtures number no_match)) is
