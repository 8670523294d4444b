-- What the tables have, and what the fixtures that are not played leave.
use Rattle.std.proofs.Common.{◌≡◌, ◌⊎◌, ℕ, ◌<◌, ◌≤◌, ℤ, ◌-ℤ◌, ◌≤ℤ◌, ◌+ℤ◌, pos, List, [], ◌∷◌}
use Rattle.std.proofs.Common.{inl, inr, length, sym, ap, ◌∙◌, subst, arith}
use Rattle.std.specs.List.{All}
use Rattle.std.proofs.lemmas.Int.{ints}
use Rattle.std.proofs.lemmas.Bool.{cases_lt}
use Rattle.std.proofs.lemmas.List.{get_or_past}
use Rattle.league_core.specs.declared.sheet.Fixture.{Fixture}
use Rattle.league_core.specs.search.Options.{options_in}
use Rattle.league_core.specs.search.PointRanges.{total_of}
use Rattle.score_box.specs.inside.Ends.{end_at, IsMatch}
use Rattle.score_box.specs.inside.Points.{left_to}
use Rattle.score_box.specs.declared.totals.Totals.{Totals}
use Rattle.score_box.specs.inside.Totals.{AreTotalsNear, totals_at, points_column}
use Rattle.score_box.proofs.EndLemmas.{matches_of}
use Rattle.score_box.proofs.SetLemmas.{first_ranges, none_empty}
use Rattle.score_box.proofs.ends.Ends.of.Goals as goal

-- the points of the table are small; past the clubs there are none
won_small : (won : List ℤ) (rows : List Totals) → length won ≡ 24
    → ((club : ℕ) → club < 24 → end_at won club ≡ (totals_at rows club).points)
    → ((club : ℕ) → club < 24 → AreTotalsNear 153000 (totals_at rows club)) → (club : ℕ)
    → ((pos 0 -ℤ pos 153000) ≤ℤ end_at won club) × (end_at won club ≤ℤ pos 153000)
won_small won rows many value near club = at (cases_lt club 24)
  where
    at : (club < 24) ⊎ (24 ≤ club)
        → ((pos 0 -ℤ pos 153000) ≤ℤ end_at won club) × (end_at won club ≤ℤ pos 153000)
    at (inl below) =
        let row = value club below in
        let one = near club below points_column in
        (omega (arith, ints, row, one.0), omega (arith, ints, row, one.1))
    at (inr past) =
        let none : end_at won club ≡ pos 0 = get_or_past won club (pos 0)
        (omega (arith, many, past)) in
        (omega (arith, ints, none), omega (arith, ints, none))

pub add_left-requires-clause-low : goal.add_left-requires-clause-low
add_left-requires-clause-low c =
    won_small c.points_won-points.result c.args.tables.now.clubs.items
    c.points_won-points.ensures.many c.points_won-points.ensures.value c.requires.near

pub add_left-requires-clause-high : goal.add_left-requires-clause-high
add_left-requires-clause-high c =
    won_small c.points_won-points.result c.args.tables.now.clubs.items
    c.points_won-points.ensures.many c.points_won-points.ensures.value c.requires.near

pub add_left-requires-clause-many : goal.add_left-requires-clause-many
add_left-requires-clause-many c = ap length c.as_slice.ensures ∙ c.requires.many

pub add_left-requires-clause-matches : goal.add_left-requires-clause-matches
add_left-requires-clause-matches c =
    let All_matches : List Fixture → Type 0 = λ fixtures. All IsMatch fixtures in
    subst All_matches (sym c.as_slice.ensures) (matches_of c.args.sheet.now c.requires.limits)

pub add_left-requires-clause-in_range : goal.add_left-requires-clause-in_range
add_left-requires-clause-in_range c i d within =
    let below = c.requires.in_range i d within in
    omega (arith, below, ap length c.as_slice.ensures)

pub returns : goal.returns
returns c season league are unplayed_are tables =
    let options = options_in c.args.sheet.now season [] in
    record {
      ranges = first_ranges c.args.sheet.now season c.args.tables.now.clubs.items
          c.args.tables.now.pairs.items c.args.unplayed.now c.points_won-points.result
          c.add_left.new.lows c.add_left.new.highs league tables unplayed_are
          (c.add_left.auto.lows ∙ c.points_won-points.ensures.many)
          (c.add_left.auto.highs ∙ c.points_won-points.ensures.many)
          c.points_won-points.ensures.value
          (let Of : List Fixture → Type 0 = λ fixtures. (club : ℕ)
          → (end_at c.add_left.new.lows club ≡ end_at c.points_won-points.result club
          +ℤ total_of (λ k. (left_to (club ∷ []) fixtures options k).least) c.args.unplayed.now)
          × (end_at c.add_left.new.highs club ≡ end_at c.points_won-points.result club
          +ℤ total_of (λ k. (left_to (club ∷ []) fixtures options k).greatest)
          c.args.unplayed.now) in
          subst Of c.as_slice.ensures (c.add_left.ensures options are));
      empty = sym (none_empty c.args.sheet.now season);
      several = c.several_outcomes.ensures options are;
    }
