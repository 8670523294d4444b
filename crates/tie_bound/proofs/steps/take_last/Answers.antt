use Rattle.league_core.specs.game.ClubSets.{clubs_in}
use Rattle.tie_bound.specs.inside.Boxes.{options_in_box}
use Rattle.tie_bound.proofs.RowLemmas.{none_at}
use Rattle.tie_bound.proofs.TakenLemmas.{step_by_overall}
use Rattle.tie_bound.proofs.steps.take_last.Goals as goal

pub put_sums_for-requires-clause-none : goal.put_sums_for-requires-clause-none
put_sums_for-requires-clause-none c = none_at 24

pub returns : goal.returns
returns c =
    let box = c.args.zone_box.now in
    step_by_overall box.sheet c.sheet.result.now (options_in_box box) c.args.club
    (clubs_in c.args.group) c.put_sums_for.new.table c.args.answers c.take_overall.result
    c.sheet.ensures.sheet c.put_sums_for.ensures c.take_overall.ensures
