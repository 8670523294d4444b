use Rattle.std.proofs.Common.{Some, sym, ap, ◌∙◌}
use Rattle.fixture_sheet.proofs.FieldLemmas.{is_blank-length}
use Rattle.fixture_sheet.proofs.PaddingLemmas.{plain-none, plain-some}
use Rattle.fixture_sheet.proofs.fields.plain_record.Goals as goal

pub returns-then-is_empty : goal.returns-then-is_empty
returns-then-is_empty c =
    sym (plain-none c.args.text.now c.without_commas-counted.result.now c.requires.plain
    c.without_commas-counted.ensures
    (sym (is_blank-length c.without_commas-counted.result.now) ∙ sym c.is_empty.ensures
    ∙ c.if-is_empty.true))

pub returns : goal.returns
returns c =
    ap Some c.in_ok-list.ensures
    ∙ sym (plain-some c.args.text.now c.without_commas-counted.result.now c.requires.plain
    c.without_commas-counted.ensures
    (sym (is_blank-length c.without_commas-counted.result.now) ∙ sym c.is_empty.ensures
    ∙ c.if-is_empty.false))
