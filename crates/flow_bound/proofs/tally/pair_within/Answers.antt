-- The match is one of the sheet, has an option, and its surplus is that of its cell.
use Rattle.std.proofs.Common.{◌≡◌, ◌≢◌, ◌<◌, ℕ, inr, List, [], length, get_or, sym, ap, subst, ◌∙◌}
use Rattle.std.proofs.Common.{arith}
use Rattle.league_core.specs.declared.sheet.Sheet.{Sheet}
use Rattle.league_core.specs.declared.sheet.Fixture.{Fixture}
use Rattle.league_core.specs.game.Results.{Results}
use Rattle.league_core.specs.search.Options.{options_in}
use Rattle.league_core.proofs.OptionLemmas.{length-options_from}
use Rattle.league_core.proofs.LiteralLemmas.{option_at}
use Rattle.league_core.proofs.FixtureLemmas.{fixture_of_sheet}
use Rattle.score_box.specs.declared.cell.Cell.{Cell}
use Rattle.score_box.specs.declared.points.left.OutcomesLeft.{OutcomesLeft}
use Rattle.score_box.specs.inside.Cells.{IsCellOf}
use Rattle.score_box.specs.inside.Points.{AreOutcomesLeft}
use Rattle.score_box.specs.inside.ZoneBoxViews.{HasFinish, ZoneBoxView}
use Rattle.score_box.proofs.SplitLemmas.{no_match}
use Rattle.score_box.proofs.BoxLemmas.{cell_of_option}
use Rattle.flow_bound.specs.declared.cut.Cut.{Cut}
use Rattle.flow_bound.specs.inside.Fixtures.{pair_at, surplus_left}
use Rattle.flow_bound.proofs.PairsLemmas.{pair_is}
use Rattle.flow_bound.proofs.SurplusLemmas.{left_surplus}
use Rattle.flow_bound.proofs.tally.pair_within.Goals as goal

pub bounds-as_slice-number : goal.bounds-as_slice-number
bounds-as_slice-number c =
    omega (
      arith,
      c.requires.in_range,
      ap length c.as_slice.ensures,
      ap (λ (s : Sheet). length s.fixtures) c.sheet.ensures.sheet,
      ap (λ (s : Results). length s.scores) c.season-season.ensures.season,
      c.season-season.ensures.of_sheet.scores,
    )

-- the surplus that was looked up is that of the pair
surplus_at : (cut : Cut) (box : ZoneBoxView) (number : ℕ) (cell : Cell) (left : OutcomesLeft)
    → HasFinish box → number < length box.season.scores
    → IsCellOf cell (get_or (options_in box.sheet box.season box.zone) number [])
    → AreOutcomesLeft cell left
    → surplus_left cut left.home_win left.draw left.away_win ≡ (pair_at cut box number).surplus
surplus_at cut box number cell left finish within is are =
    let many = length-options_from box.sheet.goal_limit box.zone 0 box.season.scores in
    let options = get_or (options_in box.sheet box.season box.zone) number [] in
    left_surplus cut cell left options are
    (cell_of_option cell options is
    (option_at box.sheet box.season box.zone number finish (omega (arith, within, many)))) is

pub returns-then-surplus-eq0 : goal.returns-then-surplus-eq0
returns-then-surplus-eq0 c =
    let box = c.args.zone_box.now in
    let same = surplus_at c.args.cut box c.args.number c.cell-cell.result.now
    c.outcomes_left.result c.requires.has_finish c.requires.in_range c.cell-cell.ensures
    (c.outcomes_left.ensures.of_cell c.cell-cell.result.now c.cell-cell.ensures) in
    inr (omega (arith, c.if-surplus-eq0.true, c.surplus_of-surplus.ensures.value, same))

pub returns : goal.returns
returns c =
    let box = c.args.zone_box.now in
    let number = c.args.number in
    let matches : c.as_slice.result.now ≡ box.sheet.fixtures =
    c.as_slice.ensures ∙ ap (λ (s : Sheet). s.fixtures) c.sheet.ensures.sheet in
    let in_sheet : number < length c.sheet.result.now.fixtures = omega (
      arith,
      c.requires.in_range,
      ap (λ (s : Sheet). length s.fixtures) c.sheet.ensures.sheet,
      ap (λ (s : Results). length s.scores) c.season-season.ensures.season,
      c.season-season.ensures.of_sheet.scores,
    ) in
    let Apart : List Fixture → Type 0 = λ ms. (get_or ms number no_match).home
    ≢ (get_or ms number no_match).away in (
      pair_is c.args.cut box number c.surplus_of-surplus.result
          (get_or c.as_slice.result.now number no_match)
          (ap (λ (ms : List Fixture). get_or ms number no_match) matches)
          (c.surplus_of-surplus.ensures.value
          ∙ surplus_at c.args.cut box number c.cell-cell.result.now c.outcomes_left.result
          c.requires.has_finish c.requires.in_range c.cell-cell.ensures
          (c.outcomes_left.ensures.of_cell c.cell-cell.result.now c.cell-cell.ensures)),
      sym c.are_both.ensures ∙ c.if-not-are_both.false,
      subst Apart (sym c.as_slice.ensures)
          (fixture_of_sheet c.sheet.result.now number no_match c.sheet.ensures.limits in_sheet).2,
      c.surplus_of-surplus.ensures.small,
    )
