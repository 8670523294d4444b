-- A fixture that neither test divides has one outcome.
use Rattle.std.proofs.Common.{sym, ◌∙◌}
use Rattle.branch_rules.specs.inside.Choices.{options_at_fixture}
use Rattle.branch_rules.proofs.OutcomeTestLemmas.{one_is_left}
use Rattle.branch_rules.proofs.outcomes.better_of.Goals as goal

pub returns-then-not-parts_by_draw-clause-none : goal.returns-then-not-parts_by_draw-clause-none
returns-then-not-parts_by_draw-clause-none c none = (
  none,
  one_is_left (options_at_fixture c.args.zone_box.now c.args.fixture) c.at-left.result
      c.at-left.ensures
      (sym c.parts_by_home.ensures ∙ c.if-not-parts_by_home.true)
      (sym c.parts_by_draw.ensures ∙ c.if-not-parts_by_draw.true),
)
