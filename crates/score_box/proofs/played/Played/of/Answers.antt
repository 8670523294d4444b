-- As many cells as fixtures, and the numbers of those that are not played.
use Rattle.std.proofs.Common.{ℕ, List, [], length, get_or, sym, ap, ◌∙◌, arith}
use Rattle.league_core.proofs.OptionLemmas.{length-options_from}
use Rattle.score_box.specs.inside.Unplayed.{unplayed_in}
use Rattle.score_box.proofs.SplitLemmas.{unplayed_in_range, unplayed_few}
use Rattle.score_box.proofs.played.Played.of.Goals as goal

pub of-ends-requires-clause-many : goal.of-ends-requires-clause-many
of-ends-requires-clause-many c =
    sym c.requires.of_sheet.scores
    ∙ sym (ap length c.scores.ensures.scores)
    ∙ sym (length-options_from c.args.sheet.now.goal_limit [] 0 c.scores.result.now)
    ∙ sym c.in_ok-cells.ensures.many
    ∙ sym (ap length c.deref.ensures.value)

pub of-ends-requires-clause-in_range : goal.of-ends-requires-clause-in_range
of-ends-requires-clause-in_range c i d within =
    let numbers = c.deref-2.ensures.value ∙ c.in_ok-open_matches.ensures.numbers
    ∙ ap unplayed_in c.scores-2.ensures.scores in
    let below = unplayed_in_range c.args.season.now.scores i d
    (omega (arith, within, ap length numbers)) in
    omega (
      arith,
      below,
      ap (λ (ns : List ℕ). get_or ns i d) numbers,
      c.requires.of_sheet.scores,
    )

pub of-ends-requires-clause-few : goal.of-ends-requires-clause-few
of-ends-requires-clause-few c =
    let numbers = c.deref-2.ensures.value ∙ c.in_ok-open_matches.ensures.numbers
    ∙ ap unplayed_in c.scores-2.ensures.scores in
    omega (
      arith,
      ap length numbers,
      unplayed_few c.args.season.now.scores,
      c.requires.of_sheet.scores,
      c.requires.limits.most_fixtures,
    )
