-- Sums over the fixtures, match by match: what a match adds, none yet, one more, and all of them.
use Rattle.std.proofs.Common.{◌≡◌, ℕ, ◌+◌, ◌*◌, ◌<◌, ◌≤◌, ℤ, pos, Bool, true, false, eqb, cond}
use Rattle.std.proofs.Common.{List, [], length, get_or, drop, refl, sym, ap, ◌∙◌, subst, arith}
use Rattle.std.proofs.lemmas.Int.{ints}
use Rattle.league_core.specs.declared.sheet.Fixture.{Fixture}
use Rattle.league_core.specs.declared.season.Score.{Score}
use Rattle.league_core.specs.game.Sums.{worth_to}
use Rattle.league_core.specs.search.PointRanges.{Range, one_value, added, range_of, range_from}
use Rattle.league_core.proofs.PointRangeLemmas.{range_from-more, range_from-all}
use Rattle.league_core.proofs.RangeLemmas.{same_range, added-none, none-added, added-assoc}
use Rattle.league_core.proofs.RangeLemmas.{range_of-none}
use Rattle.score_box.specs.declared.cell.Cell.{Cell}
use Rattle.score_box.specs.declared.totals.Totals.{Totals}
use Rattle.score_box.specs.inside.Cells.{IsCellOf, IsEmptyCell}
use Rattle.score_box.specs.inside.Totals.{Column, total_in, worth_in, AreTotalsNear, no_totals}
use Rattle.score_box.proofs.TotalLemmas.{near_wider, zero_in, near_none}
use Rattle.tie_bound.specs.inside.Sides.{to_side}
use Rattle.tie_bound.proofs.ExtentLemmas.{no_options}
use Rattle.key_bounds.specs.declared.row_ends.RowEnds.{RowEnds}
use Rattle.key_bounds.specs.inside.RowEnds.{ends_in, AreEndsNear, LeavesEnds, EndsGrowBy}
use Rattle.key_bounds.specs.inside.RowEnds.{AreClubEnds}

-- the rows of no match
abbrev pub no_ends : RowEnds
no_ends = record { least = no_totals; greatest = no_totals }

pub none_in : (column : Column) → ends_in no_ends column ≡ one_value (pos 0)
none_in column = same_range (ends_in no_ends column) (one_value (pos 0)) (zero_in column)
    (zero_in column)

pub wider : (bound more : ℕ) (ends : RowEnds) → bound ≤ more → AreEndsNear bound ends
    → AreEndsNear more ends
wider bound more ends fewer near = (
  near_wider bound more ends.least fewer near.0,
  near_wider bound more ends.greatest fewer near.1,
)

-- a cell without a score leaves nothing
pub leaves_none : (cell : Cell) (away : Bool) → IsEmptyCell cell → LeavesEnds cell away no_ends
leaves_none cell away empty = record {
  each = λ options is column.
      none_in column
      ∙ sym (ap (range_of (to_side (worth_in column) away)) (no_options cell options is empty));
  near = wider 0 255 no_ends (omega arith) (near_none, near_none);
}

near_added : (bound more : ℕ) (row other new : Totals)
    → ((column : Column) → total_in new column
    ≡ (added (record { least = total_in row column; greatest = total_in row column })
    (record { least = total_in other column; greatest = total_in other column })).least)
    → AreTotalsNear bound row → AreTotalsNear more other → AreTotalsNear (bound + more) new
near_added bound more row other new is near other_near column =
    let e = is column in
    let a = near column in
    let b = other_near column in
    (omega (arith, ints, e, a.0, b.0), omega (arith, ints, e, a.1, b.1))

-- the sums of a club that plays the match on one side
pub side_grows : (cell : Cell) (away : Bool) (options : List Score) (match old new : RowEnds)
    → LeavesEnds cell away match → IsCellOf cell options
    → ((column : Column) → ends_in new column
    ≡ added (ends_in old column) (ends_in match column))
    → EndsGrowBy (λ column. range_of (to_side (worth_in column) away) options) old new
side_grows cell away options match old new leaves is grown = record {
  sums = λ column. grown column ∙ ap (added (ends_in old column)) (leaves.each options is column);
  near = λ bound near. (
    near_added bound 255 old.least match.least new.least
        (λ column. ap (λ (r : Range). r.least) (grown column)) near.0 leaves.near.0,
    near_added bound 255 old.greatest match.greatest new.greatest
        (λ column. ap (λ (r : Range). r.greatest) (grown column)) near.1 leaves.near.1,
  );
}

-- by the side on which the club plays, if it does
abbrev sides : Bool → Bool → Column → Score → ℤ
sides home away column score = cond home (to_side (worth_in column) false score)
    (cond away (to_side (worth_in column) true score) (pos 0))

-- a match between two others leaves the sums as they are
same_ends : (options : List Score) (ends : RowEnds)
    → EndsGrowBy (λ column. range_of (λ score. pos 0) options) ends ends
same_ends options ends = record {
  sums = λ column. sym (ap (added (ends_in ends column)) (range_of-none options)
      ∙ added-none (ends_in ends column));
  near = λ bound near. wider bound (bound + 255) ends (omega arith) near;
}

grows_by_side : (home away : Bool) (match : Fixture) (club : ℕ) (options : List Score)
    (old new : RowEnds) → eqb match.home club ≡ home → eqb match.away club ≡ away
    → EndsGrowBy (λ column. range_of (sides home away column) options) old new
    → EndsGrowBy (λ column. range_of (worth_to (worth_in column) club match) options) old new
grows_by_side home away match club options old new is_home is_away grows =
    let Home : Bool → Type 0 = λ b. EndsGrowBy
    (λ column. range_of (λ score. cond b (to_side (worth_in column) false score)
    (cond (eqb match.away club) (to_side (worth_in column) true score) (pos 0))) options) old new in
    let Away : Bool → Type 0 = λ b. EndsGrowBy
    (λ column. range_of (λ score. cond home (to_side (worth_in column) false score)
    (cond b (to_side (worth_in column) true score) (pos 0))) options) old new in
    subst Home (sym is_home) (subst Away (sym is_away) grows)

pub grows_at_home : (match : Fixture) (club : ℕ) (options : List Score) (old new : RowEnds)
    → eqb match.home club ≡ true
    → EndsGrowBy (λ column. range_of (to_side (worth_in column) false) options) old new
    → EndsGrowBy (λ column. range_of (worth_to (worth_in column) club match) options) old new
grows_at_home match club options old new is_home grows =
    grows_by_side true (eqb match.away club) match club options old new is_home refl grows

pub grows_away : (match : Fixture) (club : ℕ) (options : List Score) (old new : RowEnds)
    → eqb match.home club ≡ false → eqb match.away club ≡ true
    → EndsGrowBy (λ column. range_of (to_side (worth_in column) true) options) old new
    → EndsGrowBy (λ column. range_of (worth_to (worth_in column) club match) options) old new
grows_away match club options old new not_home is_away grows =
    grows_by_side false true match club options old new not_home is_away grows

pub grows_nowhere : (match : Fixture) (club : ℕ) (options : List Score) (ends : RowEnds)
    → eqb match.home club ≡ false → eqb match.away club ≡ false
    → EndsGrowBy (λ column. range_of (worth_to (worth_in column) club match) options) ends ends
grows_nowhere match club options ends not_home not_away =
    grows_by_side false false match club options ends ends not_home not_away
    (same_ends options ends)

-- ---- the walk

-- the sums so far: with what is left of the matches they are the whole
pub record AreEndsSoFar (fixtures : List Fixture) (options : List (List Score)) (club count : ℕ)
    (ends : RowEnds) : Type 0 where
  pub whole : (column : Column) → added (ends_in ends column)
      (range_from (worth_to (worth_in column) club) (drop count fixtures) (drop count options))
      ≡ range_from (worth_to (worth_in column) club) fixtures options
  pub near : AreEndsNear (255 * count) ends

pub so_far_none : (fixtures : List Fixture) (options : List (List Score)) (club : ℕ)
    → AreEndsSoFar fixtures options club 0 no_ends
so_far_none fixtures options club = record {
  whole = λ column.
      let all = range_from (worth_to (worth_in column) club) fixtures options in
      ap (λ r. added r all) (none_in column) ∙ none-added all;
  near = wider 0 (255 * 0) no_ends (omega arith) (near_none, near_none);
}

pub so_far_more : (fixtures : List Fixture) (options : List (List Score)) (club count : ℕ)
    (d : Fixture) (old new : RowEnds) → count < length fixtures → count < length options
    → AreEndsSoFar fixtures options club count old
    → EndsGrowBy (λ column. range_of (worth_to (worth_in column) club (get_or fixtures count d))
    (get_or options count [])) old new
    → AreEndsSoFar fixtures options club (count + 1) new
so_far_more fixtures options club count d old new inside there so_far grows = record {
  whole = λ column.
      let value = worth_to (worth_in column) club in
      let here = range_of (value (get_or fixtures count d)) (get_or options count []) in
      let rest = range_from value (drop (count + 1) fixtures) (drop (count + 1) options) in
      ap (λ r. added r rest) (grows.sums column)
      ∙ added-assoc (ends_in old column) here rest
      ∙ ap (added (ends_in old column))
      (sym (range_from-more value fixtures options count d inside there))
      ∙ so_far.whole column;
  near =
      wider (255 * count + 255) (255 * (count + 1)) new (omega arith)
      (grows.near (255 * count) so_far.near);
}

pub so_far_all : (fixtures : List Fixture) (options : List (List Score)) (club count : ℕ)
    (ends : RowEnds) → length fixtures ≤ count → count ≤ 600
    → AreEndsSoFar fixtures options club count ends → AreClubEnds fixtures options club ends
so_far_all fixtures options club count ends all few so_far = record {
  each = λ column.
      let value = worth_to (worth_in column) club in
      sym (ap (added (ends_in ends column)) (range_from-all value fixtures options count all)
      ∙ added-none (ends_in ends column))
      ∙ so_far.whole column;
  near = wider (255 * count) 153000 ends (omega arith) so_far.near;
}
