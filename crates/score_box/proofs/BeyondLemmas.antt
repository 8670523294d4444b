-- The points of a set of clubs, from what each of its clubs has alone, and what the open matches
-- between two of them add beyond that.
use Rattle.std.proofs.Common.{◌≡◌, ◌≢◌, ◌⊎◌, ℕ, suc, ◌<◌, ◌≤◌, ℤ, pos, ◌+ℤ◌, ◌-ℤ◌, true, false}
use Rattle.std.proofs.Common.{◌&&◌, eqb, cond, List, [], ◌∷◌, length, get_or, take, slice_index}
use Rattle.std.proofs.Common.{refl, sym, ap, ◌∙◌, inl, inr, arith, ◌+◌, ◌-◌, zero, add-zero}
use Rattle.std.specs.List.{All}
use Rattle.std.proofs.lemmas.Int.{ints}
use Rattle.std.proofs.lemmas.Bool.{cases_lt, ne_eqb}
use Rattle.std.proofs.lemmas.List.{get_or_past}
use Rattle.league_core.specs.declared.sheet.Sheet.{Sheet}
use Rattle.league_core.specs.declared.sheet.Fixture.{Fixture}
use Rattle.league_core.specs.declared.season.Score.{Score}
use Rattle.league_core.specs.declared.zone.Literal.{Literal}
use Rattle.league_core.specs.declared.club_set.ClubSet.{ClubSet}
use Rattle.league_core.specs.game.ClubSets.{clubs_below, clubs_in}
use Rattle.league_core.specs.game.Results.{Results}
use Rattle.league_core.specs.game.Seasons.{IsLeague}
use Rattle.league_core.specs.game.Sums.{has_club}
use Rattle.league_core.specs.search.Options.{has_finish, options_in}
use Rattle.league_core.specs.search.PointRanges.{Range, range_of, range_from, total_of}
use Rattle.league_core.specs.search.PointRanges.{points_together, points_of_sides}
use Rattle.league_core.proofs.OptionLemmas.{length-options_from}
use Rattle.league_core.proofs.PointRangeLemmas.{range_of-same, total_of-same}
use Rattle.league_core.proofs.RangeLemmas.{range_of-none}
use Rattle.score_box.specs.declared.cell.Cell.{Cell}
use Rattle.score_box.specs.declared.points.PointRange.{PointRange}
use Rattle.score_box.specs.inside.Cells.{IsCellOf}
use Rattle.score_box.specs.inside.Ends.{IsMatch, AreRanges, alone_in, alone_over, end_at}
use Rattle.score_box.specs.inside.OpenSides.{AreSidesOf, NoneBetween}
use Rattle.score_box.specs.inside.Points.{IsBeyondOver, between_two, beyond_sides}
use Rattle.score_box.specs.inside.Unplayed.{unplayed_in}
use Rattle.score_box.proofs.EndLemmas.{alone_sides, matches_of}
use Rattle.score_box.proofs.SplitLemmas.{IsEnd, beyond_at, beyond_of_sides, sides_come_to}
use Rattle.score_box.proofs.SplitLemmas.{set_split, keeps_played, no_match, total_take}
use Rattle.score_box.proofs.SplitLemmas.{unplayed_in_range}

-- ---- one match

-- what two sides come to is what each of them does, and beyond that what both do
both_sides : (end : Range → ℤ) → IsEnd end → (options : List Score)
    → sides_come_to end options (end (range_of (points_of_sides true false) options))
    (end (range_of (points_of_sides false true) options)) (beyond_sides end options)
both_sides end is options true true = omega (arith, ints)
both_sides end is options true false = omega (arith, ints)
both_sides end is options false true = omega (arith, ints)
both_sides end is options false false = ap end (range_of-none options) ∙ is.none

-- so that is what a match between two clubs of a set adds
beyond_at-is : (end : Range → ℤ) → IsEnd end → (bits : ℕ) (matches : List Fixture)
    (options : List (List Score)) (k : ℕ)
    → (get_or matches k no_match).home ≢ (get_or matches k no_match).away
    → beyond_at end (clubs_below 32 bits) matches options k
    ≡ between_two end (clubs_below 32 bits) matches options k
beyond_at-is end is bits matches options k apart =
    beyond_of_sides end bits (get_or matches k no_match) (get_or options k [])
    (end (range_of (points_of_sides true false) (get_or options k [])))
    (end (range_of (points_of_sides false true) (get_or options k [])))
    (beyond_sides end (get_or options k [])) apart (both_sides end is (get_or options k []))

-- ---- one match after another

-- one number more adds what its match adds
pub beyond_more : (fixtures : List Fixture) (cells : List Cell) (numbers clubs : List ℕ)
    (i number : ℕ) (e : Cell) (total next more : PointRange) → i < length numbers
    → number ≡ get_or numbers i 0 → number < length cells
    → IsBeyondOver fixtures cells (take i numbers) clubs total
    → ((options : List Score) → IsCellOf (get_or cells number e) options
    → (more.least ≡ cond (has_club clubs (get_or fixtures number no_match).home
    && has_club clubs (get_or fixtures number no_match).away)
    (beyond_sides (λ range. range.least) options) (pos 0))
    × (more.most ≡ cond (has_club clubs (get_or fixtures number no_match).home
    && has_club clubs (get_or fixtures number no_match).away)
    (beyond_sides (λ range. range.greatest) options) (pos 0)))
    → next.least ≡ total.least +ℤ more.least → next.most ≡ total.most +ℤ more.most
    → IsBeyondOver fixtures cells (take (i + 1) numbers) clubs next
beyond_more fixtures cells numbers clubs i number e total next more within is in_cells so_far adds
    least_is most_is = record {
      least = λ options are.
          let value = between_two (λ range. range.least) clubs fixtures options in
          let one = (adds (get_or options number []) (are.each number e in_cells)).0 ∙ ap value is
          in
          let sum = total_take value numbers i 0 within in
          omega (arith, ints, one, sum, so_far.least options are, least_is);
      most = λ options are.
          let value = between_two (λ range. range.greatest) clubs fixtures options in
          let one = (adds (get_or options number []) (are.each number e in_cells)).1 ∙ ap value is
          in
          let sum = total_take value numbers i 0 within in
          omega (arith, ints, one, sum, so_far.most options are, most_is);
    }

-- numbers of no value add nothing
total_past : (value : ℕ → ℤ) (numbers : List ℕ) (i count : ℕ) → i + count ≤ length numbers
    → ((k : ℕ) → i ≤ k → k < i + count → value (get_or numbers k 0) ≡ pos 0)
    → total_of value (take (i + count) numbers) ≡ total_of value (take i numbers)
total_past value numbers i zero within none = ap (λ n. total_of value (take n numbers)) (add-zero i)
total_past value numbers i (suc count) within none =
    let here = none (i + count) (omega arith) (omega arith) in
    let rest = total_past value numbers i count (omega (arith, within))
    (λ k low below. none k low (omega (arith, below))) in
    let more = total_take value numbers (i + count) 0 (omega (arith, within)) in
    ap (λ n. total_of value (take n numbers)) (omega arith) ∙ more
    ∙ omega (arith, ints, rest, here)

-- nor do the matches from one place up to another, if none of them is between two of the clubs
pub beyond_past : (fixtures : List Fixture) (cells : List Cell) (numbers : List ℕ)
    (sides : List ClubSet) (group : ClubSet) (from to : ℕ) (total : PointRange)
    → from ≤ to → to ≤ length numbers → AreSidesOf fixtures numbers sides
    → NoneBetween sides group from to
    → IsBeyondOver fixtures cells (take from numbers) (clubs_in group) total
    → IsBeyondOver fixtures cells (take to numbers) (clubs_in group) total
beyond_past fixtures cells numbers sides group from to total order within are none so_far = record {
  least = λ options are_options. so_far.least options are_options
      ∙ sym (skips (λ range. range.least) options);
  most = λ options are_options. so_far.most options are_options
      ∙ sym (skips (λ range. range.greatest) options);
}
  where
    skips : (end : Range → ℤ) (options : List (List Score))
        → total_of (between_two end (clubs_in group) fixtures options) (take to numbers)
        ≡ total_of (between_two end (clubs_in group) fixtures options) (take from numbers)
    skips end options =
        let value = between_two end (clubs_in group) fixtures options in
        let all : to ≡ from + (to - from) = omega (arith, order) in
        ap (λ n. total_of value (take n numbers)) all
        ∙ total_past value numbers from (to - from) (omega (arith, order, within)) (λ k low below.
        ap (λ b. cond b (beyond_sides end (get_or options (get_or numbers k 0) [])) (pos 0))
        (none k low (omega (arith, below, order)) (get_or fixtures (get_or numbers k 0) no_match)
        (λ d. are.each k d (omega (arith, below, order, within)))))

-- ---- totals

-- values that are the same at each number have the same total
total_of-agree : (value other : ℕ → ℤ) (numbers : List ℕ)
    → ((k : ℕ) → k < length numbers → value (get_or numbers k 0) ≡ other (get_or numbers k 0))
    → total_of value numbers ≡ total_of other numbers
total_of-agree value other [] same = refl
total_of-agree value other (number ∷ numbers) same =
    let here = same 0 (omega arith) in
    let rest = total_of-agree value other numbers
    (λ k within. same (suc k) (omega (arith, within))) in
    omega (arith, ints, here, rest)

total_of-less : (value off : ℕ → ℤ) (clubs : List ℕ)
    → total_of (λ club. value club -ℤ off club) clubs
    ≡ total_of value clubs -ℤ total_of off clubs
total_of-less value off [] = omega (arith, ints)
total_of-less value off (club ∷ clubs) =
    let rest = total_of-less value off clubs in omega (arith, ints, rest)

-- ---- clubs alone

-- a number that is no club's has nothing
alone_past : (end : Range → ℤ) → IsEnd end → (club : ℕ) → 24 ≤ club → (matches : List Fixture)
    (options : List (List Score)) → All IsMatch matches
    → end (alone_over matches options club) ≡ pos 0
alone_past end is club past [] options are = is.none
alone_past end is club past (match ∷ matches) [] are = is.none
alone_past end is club past (match ∷ matches) (scores ∷ options) are =
    let rest = alone_past end is club past matches options
    (λ i d within. are (suc i) d (omega (arith, within))) in
    let sum = is.adds (alone_in club match scores) (alone_over matches options club) in
    let here = ap end (range_of-same (points_together (club ∷ []) match) (λ score. pos 0) scores
    none ∙ range_of-none scores) ∙ is.none in
    omega (arith, ints, rest, sum, here)
  where
    one : IsMatch match
    one = are 0 match (omega arith)

    none : (score : Score) → points_together (club ∷ []) match score ≡ pos 0
    none score =
        alone_sides club match score one.apart
        ∙ ap (λ h. points_of_sides h (eqb match.away club) score)
        (ne_eqb match.home club (λ same. omega (arith, same, past, one.home)))
        ∙ ap (λ a. points_of_sides false a score)
        (ne_eqb match.away club (λ same. omega (arith, same, past, one.away)))

-- the numbers of ranges are what each club has alone, also of a number that is no club's
pub lows_are : (fixtures : List Fixture) (options : List (List Score)) (lows highs : List ℤ)
    → All IsMatch fixtures → AreRanges fixtures options lows highs → (club : ℕ)
    → end_at lows club ≡ (alone_over fixtures options club).least
lows_are fixtures options lows highs matches are club = at (cases_lt club 24)
  where
    at : (club < 24) ⊎ (24 ≤ club) → end_at lows club ≡ (alone_over fixtures options club).least
    at (inl below) = are.least club below
    at (inr past) =
        get_or_past lows club (pos 0) (omega (arith, past, are.many_lows))
        ∙ sym (alone_past (λ range. range.least) (record {
          none = refl;
          adds = λ range other. refl;
        }) club past fixtures options matches)

pub highs_are : (fixtures : List Fixture) (options : List (List Score)) (lows highs : List ℤ)
    → All IsMatch fixtures → AreRanges fixtures options lows highs → (club : ℕ)
    → end_at highs club ≡ (alone_over fixtures options club).greatest
highs_are fixtures options lows highs matches are club = at (cases_lt club 24)
  where
    at : (club < 24) ⊎ (24 ≤ club)
        → end_at highs club ≡ (alone_over fixtures options club).greatest
    at (inl below) = are.most club below
    at (inr past) =
        get_or_past highs club (pos 0) (omega (arith, past, are.many_highs))
        ∙ sym (alone_past (λ range. range.greatest) (record {
          none = refl;
          adds = λ range other. refl;
        }) club past fixtures options matches)

-- ---- a set of clubs

-- what its clubs have alone, and what the matches between two of them add, is what the set has
pub set_end : (end : Range → ℤ) → IsEnd end → (sheet : Sheet) (season : Results)
    (zone : List Literal) (bits : ℕ) (ends : List ℤ) (unplayed : List ℕ) (alone beyond : ℤ)
    → IsLeague sheet season → has_finish sheet season zone ≡ true
    → unplayed ≡ unplayed_in season.scores
    → ((club : ℕ) → end_at ends club
    ≡ end (alone_over sheet.fixtures (options_in sheet season zone) club))
    → alone ≡ total_of (λ club. end_at ends club -ℤ pos (slice_index season.deductions club))
    (clubs_below 32 bits)
    → beyond ≡ total_of (between_two end (clubs_below 32 bits) sheet.fixtures
    (options_in sheet season zone)) unplayed
    → alone +ℤ beyond ≡ end (range_from (points_together (clubs_below 32 bits)) sheet.fixtures
    (options_in sheet season zone))
    -ℤ total_of (λ club. pos (slice_index season.deductions club)) (clubs_below 32 bits)
set_end end is sheet season zone bits ends unplayed alone beyond league finish open_are ends_are
    alone_is beyond_is =
    let split = set_split end is clubs sheet.fixtures season.scores options many
    (length-options_from sheet.goal_limit zone 0 season.scores ∙ many)
    (keeps_played sheet season zone finish) in
    let each = total_of-same (end_at ends) (λ club. end (alone_over sheet.fixtures options club))
    clubs ends_are in
    let less = total_of-less (end_at ends) (λ club. pos (slice_index season.deductions club)) clubs
    in
    let more = beyond_is ∙ ap (total_of (between_two end clubs sheet.fixtures options)) open_are
    ∙ sym (total_of-agree (beyond_at end clubs sheet.fixtures options)
    (between_two end clubs sheet.fixtures options) (unplayed_in season.scores) (λ k within.
    beyond_at-is end is bits sheet.fixtures options (get_or (unplayed_in season.scores) k 0)
    (matches_of sheet league.limits (get_or (unplayed_in season.scores) k 0) no_match
    (let below = unplayed_in_range season.scores k 0 within in
    omega (arith, below, many))).apart)) in
    omega (arith, ints, split, each, less, more, alone_is)
  where
    clubs : List ℕ
    clubs = clubs_below 32 bits

    options : List (List Score)
    options = options_in sheet season zone

    many : length season.scores ≡ length sheet.fixtures
    many = league.of_sheet.scores
