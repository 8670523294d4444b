-- What the entry is by the definition may come in its season, and is never the end.
use Rattle.std.proofs.Common.{rules}
use Rattle.result_log.proofs.RecordLemmas.{answer_may_come, answer_is_no_end}
use Rattle.result_log.proofs.record.read_event.Goals as goal

pub returns-in-Result-clause-is_entry : goal.returns-in-Result-clause-is_entry
returns-in-Result-clause-is_entry c =
    answer_may_come c.args.sheet.now c.args.season.now c.args.events c.args.proofs c.args.fields.now
    c.read_result.result c.requires.of_sheet (search rules)

pub returns-in-Result-clause-never : goal.returns-in-Result-clause-never
returns-in-Result-clause-never c =
    answer_is_no_end c.args.sheet.now c.args.season.now c.args.events c.args.proofs
    c.args.fields.now
    c.read_result.result (search rules)

pub returns-in-Fix-clause-is_entry : goal.returns-in-Fix-clause-is_entry
returns-in-Fix-clause-is_entry c =
    answer_may_come c.args.sheet.now c.args.season.now c.args.events c.args.proofs c.args.fields.now
    c.read_fix.result c.requires.of_sheet (search rules)
