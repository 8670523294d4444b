use Rattle.std.proofs.Common.{sym, ap, ◌∙◌, map, arith}
use Rattle.csv.specs.Records.{fields_of as row_fields}
use Rattle.csv.proofs.RecordFacts.{field-get, field-there}
use Rattle.fixture_sheet.proofs.FieldLemmas.{copied-more}
use Rattle.fixture_sheet.proofs.fields.copied.Goals as goal
use Rattle.fixture_sheet.proofs.fields.copied.Goals.{in-Some+in_ok-to_vec+in_ok-push, in_default}

pub loop-place-preserved : goal.loop-place-preserved
loop-place-preserved c = elim c.match-get.branch [
  | in-Some+in_ok-to_vec+in_ok-push w ↦
      ap (λ list. map (λ bytes. bytes.items) list.items) w.list-is
      ∙ ap (map (λ bytes. bytes.items)) w.in_ok-push.ensures.items
      ∙ copied-more (λ bytes. bytes.items) c.loop-place.list.items w.in_ok-to_vec.field-0
      (row_fields c.args.row.now) c.loop-place.place (omega arith) c.loop-place.invariant
      (w.in_ok-to_vec.ensures.items_if_clones_equal (λ _ _ same. same)
      ∙ sym (field-get (row_fields c.args.row.now) c.loop-place.place w.in-Some.field.now
      (sym w.in-Some.ensures.value)))
  | in_default w ↦ absurd (field-there (row_fields c.args.row.now) c.loop-place.place
      (omega arith) (sym w.in_default.ensures.value))
]
