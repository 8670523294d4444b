use Rattle.std.proofs.Common.{sym, ap, ◌∙◌}
use Rattle.csv.specs.Records.{fields_of as row_fields}
use Rattle.csv.proofs.RecordFacts.{field-get}
use Rattle.fixture_sheet.specs.Fields.{is_blank}
use Rattle.fixture_sheet.proofs.FieldLemmas.{is_blank-length, get_or-beyond}
use Rattle.fixture_sheet.proofs.fields.is_blank_at.Goals as goal

pub returns-in-Some : goal.returns-in-Some
returns-in-Some c =
    c.is_empty.ensures ∙ is_blank-length c.in-Some.field.now
    ∙ sym (ap is_blank
    (field-get (row_fields c.args.row.now) c.args.place c.in-Some.field.now
    (sym c.in-Some.ensures.value)))

pub returns-in-None : goal.returns-in-None
returns-in-None c =
    sym (ap is_blank
    (get_or-beyond (row_fields c.args.row.now) c.args.place (sym c.in-None.ensures.value)))
