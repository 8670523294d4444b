use Rattle.std.proofs.Common.{◌∙◌, length, ap, arith}
use Rattle.league_core.specs.declared.sheet.Sheet.{Sheet}
use Rattle.league_core.specs.game.ClubSets.{clubs_in}
use Rattle.tie_bound.specs.inside.Boxes.{options_in_box}
use Rattle.tie_bound.proofs.RowLemmas.{none_at}
use Rattle.tie_bound.proofs.TakenLemmas.{step_by_records, all_sure-records}
use Rattle.tie_bound.proofs.steps.take_records.Goals as goal

pub put_sums_among-requires-clause-none : goal.put_sums_among-requires-clause-none
put_sums_among-requires-clause-none c = none_at 24

pub take_parts-requires : goal.take_parts-requires
take_parts-requires c member has =
    omega (
      arith,
      c.requires.group member has,
      c.put_sums_among.auto.table,
      ap (λ (s : Sheet). length s.clubs) c.sheet-sheet.ensures.sheet,
      c.sheet-sheet.ensures.limits.most_clubs,
    )

pub returns-clause-answers : goal.returns-clause-answers
returns-clause-answers c =
    let box = c.args.zone_box.now in
    step_by_records box.sheet (options_in_box box) c.args.club (clubs_in c.args.group)
    c.put_sums_among.new.table c.args.answers c.take_parts.result.answers
    c.put_sums_among.ensures c.take_parts.ensures.answers

pub returns-clause-sure : goal.returns-clause-sure
returns-clause-sure c =
    let box = c.args.zone_box.now in
    c.take_parts.ensures.sure
    ∙ all_sure-records box.sheet (options_in_box box) (clubs_in c.args.group)
    c.put_sums_among.new.table c.args.club c.put_sums_among.ensures
