use Rattle.std.proofs.Common.{sym, arith}
use Rattle.csv.specs.Records.{fields_of as row_fields}
use Rattle.fixture_sheet.proofs.FieldLemmas.{kept-blank, kept-field}
use Rattle.fixture_sheet.proofs.fields.kept.Goals as goal
use Rattle.fixture_sheet.proofs.fields.kept.Goals.{then-not-is_blank_at, else-not-is_blank_at}

pub loop-place-preserved : goal.loop-place-preserved
loop-place-preserved c = elim c.if-not-is_blank_at.branch [
  | then-not-is_blank_at w ↦ kept-field (row_fields c.args.row.now) c.loop-place.place
      c.if-not-is_blank_at.kept (omega arith) (sym w.if-not-is_blank_at.ensures) w.kept-is
  | else-not-is_blank_at w ↦ kept-blank (row_fields c.args.row.now) c.loop-place.place
      c.if-not-is_blank_at.kept c.loop-place.kept (omega arith)
      (sym w.if-not-is_blank_at.ensures) w.kept-is c.loop-place.invariant
]
