-- What is told is the step that the line passed last is.
use Rattle.what_if.proofs.StepCallLemmas.{there-may_come, parsed-step}
use Rattle.what_if.proofs.step_reader.next_step.Goals as goal

pub returns-clause-is_step : goal.returns-clause-is_step
returns-clause-is_step g c =
    there-may_come c.args.sheet.now c.args.season.now c.args.events c.next_parsed.new.reader.text
    c.next_parsed.result c.requires.of_sheet
    (parsed-step c.args.sheet.now c.args.season.now c.args.events c.next_parsed.new.reader.text
    c.next_parsed.result c.next_parsed.ensures.there)

pub returns-clause-step : goal.returns-clause-step
returns-clause-step g c =
    parsed-step c.args.sheet.now c.args.season.now c.args.events c.next_parsed.new.reader.text
    c.next_parsed.result c.next_parsed.ensures.there
