-- Ends over scores of two kinds are the lesser and the greater of the ends over each kind; and what
-- is found of the scores of a cell is so of its options.
use Rattle.std.proofs.Common.{◌≡◌, ℤ, ◌≤ℤ◌, Bool, true, false, ◌||◌, ◌&&◌, Option}
use Rattle.std.proofs.Common.{Some, refl, sym, ap, ◌∙◌, subst, inl, inr, arith}
use Rattle.std.specs.Int.{int_min, int_max}
use Rattle.std.proofs.Math.Bool.{or-false}
use Rattle.std.proofs.lemmas.Int.{ints, clamps}
use Rattle.std.proofs.lemmas.Bool.{or_cases, or_left, or_right}
use Rattle.std.proofs.lemmas.Bool.Decides.{nat_tests}
use Rattle.league_core.specs.declared.season.Score.{Score}
use Rattle.league_core.specs.inside.Extents.{IsExtent}
use Rattle.league_core.specs.search.Options.{is_home_win, is_draw, is_away_win}
use Rattle.league_core.specs.search.PointRanges.{Range}
use Rattle.league_core.proofs.ExtentLemmas.{extent-is, extent_at}
use Rattle.league_core.proofs.plain.Numbers.{int_max-is_one, int_min-is_one}
use Rattle.score_box.specs.declared.cell.Cell.{Cell}
use Rattle.score_box.specs.inside.Cells.{allows}
use Rattle.score_box.specs.inside.Totals.{Column, total_in, worth_in}
use Rattle.tie_bound.specs.inside.Sides.{to_side}
use Rattle.key_bounds.specs.declared.row_ends.RowEnds.{RowEnds}
use Rattle.key_bounds.specs.inside.RowEnds.{ends_in, AreEndsNear, hull, AreEndsOf, AreEndsIfAny}
use Rattle.key_bounds.specs.inside.RowEnds.{passing, LeavesEnds}

-- of one kind and of another
hull_extent : (one other : Score → Bool) (value : Score → ℤ) (range more : Range)
    → IsExtent one value range → IsExtent other value more
    → IsExtent (λ score. one score || other score) value (hull range more)
hull_extent one other value range more mine theirs = record {
  within = λ score is. elim (or_cases (one score) (other score) is) as (λ _.
      (int_min range.least more.least ≤ℤ value score)
      × (value score ≤ℤ int_max range.greatest more.greatest)) [
        | inl here ↦
            let between = mine.within score here in
            (omega (arith, ints, clamps, between.0), omega (arith, ints, clamps, between.1))
        | inr there ↦
            let between = theirs.within score there in
            (omega (arith, ints, clamps, between.0), omega (arith, ints, clamps, between.1))
      ];
  least = elim (int_min-is_one range.least more.least) as (λ _. (score : Score)
      × ((one score || other score) ≡ true)
      × (value score ≡ int_min range.least more.least)) [
        | inl first ↦ (
          mine.least.0,
          or_left (one mine.least.0) (other mine.least.0) mine.least.1,
          mine.least.2 ∙ sym first,
        )
        | inr second ↦ (
          theirs.least.0,
          or_right (one theirs.least.0) (other theirs.least.0) theirs.least.1,
          theirs.least.2 ∙ sym second,
        )
      ];
  greatest = elim (int_max-is_one range.greatest more.greatest) as (λ _. (score : Score)
      × ((one score || other score) ≡ true)
      × (value score ≡ int_max range.greatest more.greatest)) [
        | inl first ↦ (
          mine.greatest.0,
          or_left (one mine.greatest.0) (other mine.greatest.0)
              mine.greatest.1,
          mine.greatest.2 ∙ sym first,
        )
        | inr second ↦ (
          theirs.greatest.0,
          or_right (one theirs.greatest.0) (other theirs.greatest.0)
              theirs.greatest.1,
          theirs.greatest.2 ∙ sym second,
        )
      ];
}

hull_near : (ends more all : RowEnds)
    → ((column : Column) → ends_in all column ≡ hull (ends_in ends column) (ends_in more column))
    → AreEndsNear 255 ends → AreEndsNear 255 more → AreEndsNear 255 all
hull_near ends more all is near other = (
  λ column.
      let e : total_in all.least column
      ≡ int_min (total_in ends.least column) (total_in more.least column) =
      ap (λ (r : Range). r.least) (is column) in
      let a = near.0 column in
      let b = other.0 column in
      (omega (arith, ints, clamps, e, a.0, b.0), omega (arith, ints, clamps, e, a.1, b.1)),
  λ column.
      let e : total_in all.greatest column
      ≡ int_max (total_in ends.greatest column) (total_in more.greatest column) =
      ap (λ (r : Range). r.greatest) (is column) in
      let a = near.1 column in
      let b = other.1 column in
      (omega (arith, ints, clamps, e, a.0, b.0), omega (arith, ints, clamps, e, a.1, b.1)),
)

pub hull_ends : (one other : Score → Bool) (away : Bool) (ends more all : RowEnds)
    → ((column : Column) → ends_in all column ≡ hull (ends_in ends column) (ends_in more column))
    → AreEndsOf one away ends → AreEndsOf other away more
    → AreEndsOf (λ score. one score || other score) away all
hull_ends one other away ends more all is mine theirs = record {
  each = λ column.
      extent_at (λ score. one score || other score) (to_side (worth_in column) away)
      (ends_in all column) (hull (ends_in ends column) (ends_in more column)) (is column)
      (hull_extent one other (to_side (worth_in column) away) (ends_in ends column)
      (ends_in more column) (mine.each column) (theirs.each column));
  near = hull_near ends more all is mine.near theirs.near;
}

-- the same scores have the same ends
pub ends_same : (one other : Score → Bool) (away : Bool) (ends : Option RowEnds)
    → ((score : Score) → one score ≡ other score) → AreEndsIfAny one away ends
    → AreEndsIfAny other away ends
ends_same one other away ends same are =
    subst (λ (allowed : Score → Bool). AreEndsIfAny allowed away ends) (λ i score. same score i) are

-- scores of which none is of one kind are of the other
pub ends_of_one : (one other : Score → Bool) (away : Bool) (ends : RowEnds)
    → ((score : Score) → other score ≡ false) → AreEndsOf one away ends
    → AreEndsOf (λ score. one score || other score) away ends
ends_of_one one other away ends none are =
    ends_same one (λ score. one score || other score) away (Some ends)
    (λ score. sym (ap (λ b. one score || b) (none score) ∙ or-false (one score))) are

pub ends_of_other : (one other : Score → Bool) (away : Bool) (ends : Option RowEnds)
    → ((score : Score) → one score ≡ false) → AreEndsIfAny other away ends
    → AreEndsIfAny (λ score. one score || other score) away ends
ends_of_other one other away ends none are =
    ends_same other (λ score. one score || other score) away ends
    (λ score. sym (ap (λ b. b || other score) (none score))) are

-- each score of a cell has one of the three outcomes
pub three_kinds : (cell : Cell) (score : Score)
    → ((passing cell is_home_win score || passing cell is_draw score)
    || passing cell is_away_win score) ≡ allows cell score
three_kinds cell score =
    at (allows cell score) (is_home_win score) (is_draw score) (is_away_win score) (one_of score)
  where
    one_of : (s : Score) → ((is_home_win s || is_draw s) || is_away_win s) ≡ true
    one_of s = grind (arith, nat_tests)

    at : (allowed wins draws loses : Bool) → ((wins || draws) || loses) ≡ true
        → (((allowed && wins) || (allowed && draws)) || (allowed && loses)) ≡ allowed
    at true wins draws loses some = some
    at false wins draws loses some = refl

-- ends over the scores of a cell are those over its options
pub leaves_some : (cell : Cell) (away : Bool) (ends : RowEnds) → AreEndsOf (allows cell) away ends
    → LeavesEnds cell away ends
leaves_some cell away ends are = record {
  each = λ options is column.
      extent-is (allows cell) (to_side (worth_in column) away) (ends_in ends column) options
      (are.each column) is;
  near = are.near;
}

-- ends over the scores of a part are those over the scores of its outcome
pub part_ends : (cell part : Cell) (test : Score → Bool) (away : Bool) (ends : RowEnds)
    → ((score : Score) → allows part score ≡ passing cell test score)
    → AreEndsOf (allows part) away ends → AreEndsOf (passing cell test) away ends
part_ends cell part test away ends same are =
    ends_same (allows part) (passing cell test) away (Some ends) same are
