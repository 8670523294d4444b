use Rattle.std.proofs.Common.{zero, ◌<◌, arith, ap, sym, ◌∙◌, ◌%◌}
use Rattle.cert_check.specs.ExpectedItems.{verdict_row}
use Rattle.par_check.proofs.RowAtLemmas.{row_by_place}
use Rattle.par_check.proofs.item_rows.row_at.Goals as goal

pub line_at-requires-clause-in_range : goal.line_at-requires-clause-in_range
line_at-requires-clause-in_range c =
    let some : zero < c.len-clubs.result = omega (
      arith,
      c.len-clubs.ensures,
      c.requires.limits.two_clubs,
    ) in
    (row_by_place c.args.sheet.now c.args.row c.len-clubs.result c.len-clubs.ensures some
    c.requires.in_range).0

pub returns-clause-due : goal.returns-clause-due
returns-clause-due c =
    let some : zero < c.len-clubs.result = omega (
      arith,
      c.len-clubs.ensures,
      c.requires.limits.two_clubs,
    ) in
    (row_by_place c.args.sheet.now c.args.row c.len-clubs.result c.len-clubs.ensures some
    c.requires.in_range).1
    ∙ ap (λ line. verdict_row line (c.args.row % c.len-clubs.result)) (sym c.line_at.ensures.value)
