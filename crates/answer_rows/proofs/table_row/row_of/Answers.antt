use Rattle.std.proofs.Common.{◌∙◌, rules, FitsSigned, w32}
use Rattle.std.proofs.lemmas.Int.{to_z-of_z}
use Rattle.answer_rows.proofs.TableLemmas.{row-is}
use Rattle.answer_rows.proofs.table_row.row_of.Goals as goal

pub returns : goal.returns
returns c =
    let fits : FitsSigned w32 c.points_of.result = search rules in
    row-is c.args.sheet.now c.args.season.now c.args.club c.args.span _ _ _ _ _ _
    c.joined.result c.joined.ensures c.requires.in_range c.requires.span
    c.count_played-count.ensures
    (to_z-of_z w32 c.points_of.result fits ∙ c.points_of.ensures) c.tail_of.ensures
