-- What the line tells, said of the contents still to come.
use Rattle.std.proofs.Common.{subst, ℕ, List, Ok, option_map}
use Rattle.port_core.specs.declared.line.Line.TheVariants as line
use Rattle.port_core.specs.Readers.{contents_to_come}
use Rattle.fixture_sheet.proofs.PassedLemmas.{leaves-as, passes-as}
use Rattle.result_log.specs.Feeds.{line_as, parsed_in}
use Rattle.result_log.specs.inside.Calls.{AnswersLine, answer_there}
use Rattle.result_log.specs.inside.Readings.{answer_as}
use Rattle.result_log.proofs.CallLemmas.{Text-reads, comes-of}
use Rattle.result_log.proofs.LastReadLemmas.{stop-stops, text-stops}
use Rattle.result_log.proofs.PassedLemmas.{answers-as, line-behind, parsed-may_come}
use Rattle.result_log.proofs.PassedLemmas.{parsed-there}
use Rattle.result_log.proofs.reader.take_line.Goals as goal

pub returns-in-Ok-Text-clause-reads : goal.returns-in-Ok-Text-clause-reads
returns-in-Ok-Text-clause-reads g c =
    let entry = g.R.Reading.entry in
    let at = c.args.at.now in
    let tells = g.R.Reading.tells c.args.reading.now at.sheet.now at.season.now at.events in
    let gives = rw c.in-Ok-Text.field-0-is at c.in-Ok-Text.ensures.gives in
    Text-reads (line_as entry tells) c.in-Ok-Text.number c.next.new.self.text
    (contents_to_come c.args.reader.now (g.S.Source.left c.args.source.now))
    (contents_to_come c.next.new.self (g.S.Source.left c.next.new.source))
    (option_map (answer_as entry) c.line_parsed.result) gives
    (answers-as entry c.in-Ok-Text.number (parsed_in tells c.next.new.self.text)
    c.line_parsed.result
    (subst (λ (content : List ℕ). AnswersLine c.in-Ok-Text.number (parsed_in tells content)
    c.line_parsed.result) c.text.ensures c.line_parsed.ensures.answer))

pub returns-in-Ok-Text-clause-there : goal.returns-in-Ok-Text-clause-there
returns-in-Ok-Text-clause-there g c =
    let at = c.args.at.now in
    let tells = g.R.Reading.tells c.args.reading.now at.sheet.now at.season.now at.events in
    parsed-there g.R.Reading.entry tells c.next.new.self.text c.in-Ok-Text.number
    c.line_parsed.result
    (subst (λ (content : List ℕ). AnswersLine c.in-Ok-Text.number (parsed_in tells content)
    c.line_parsed.result) c.text.ensures c.line_parsed.ensures.answer)

pub returns-in-Ok-End-clause-there : goal.returns-in-Ok-End-clause-there
returns-in-Ok-End-clause-there g c = λ no_end. absurd (no_end c.end.ensures)

pub returns-in-Ok-Text-clause-may_come : goal.returns-in-Ok-Text-clause-may_come
returns-in-Ok-Text-clause-may_come g c =
    parsed-may_come g.R.Reading.entry c.args.at.now.season.now c.args.at.now.events
    c.line_parsed.result c.line_parsed.ensures.may_be

pub returns-in-Ok-End-clause-may_come : goal.returns-in-Ok-End-clause-may_come
returns-in-Ok-End-clause-may_come g c = rw c.end.ensures tt

pub returns-in-Ok-Text-clause-passes : goal.returns-in-Ok-Text-clause-passes
returns-in-Ok-Text-clause-passes g c =
    let entry = g.R.Reading.entry in
    let at = c.args.at.now in
    let tells = g.R.Reading.tells c.args.reading.now at.sheet.now at.season.now at.events in
    let passes = rw c.in-Ok-Text.field-0-is at c.in-Ok-Text.ensures.passes in
    let leaves = rw c.in-Ok-Text.field-0-is at c.in-Ok-Text.ensures.leaves in
    passes-as c.args.reader.now c.next.new.self _ _ _ _ (Ok (line.Text c.in-Ok-Text.number))
    (answer_there c.next.new.self (option_map (answer_as entry) c.line_parsed.result))
    (line-behind entry at.season.now at.events tells c.next.new.self.text
    c.next.new.self c.in-Ok-Text.number c.line_parsed.result leaves.0
    (subst (λ (content : List ℕ). AnswersLine c.in-Ok-Text.number (parsed_in tells content)
    c.line_parsed.result) c.text.ensures c.line_parsed.ensures.answer)
    c.line_parsed.ensures.may_be) passes

pub returns-in-Ok-Text-clause-leaves : goal.returns-in-Ok-Text-clause-leaves
returns-in-Ok-Text-clause-leaves g c =
    let entry = g.R.Reading.entry in
    let at = c.args.at.now in
    let tells = g.R.Reading.tells c.args.reading.now at.sheet.now at.season.now at.events in
    let leaves = rw c.in-Ok-Text.field-0-is at c.in-Ok-Text.ensures.leaves in
    leaves-as c.next.new.self _ (Ok (line.Text c.in-Ok-Text.number))
    (answer_there c.next.new.self (option_map (answer_as entry) c.line_parsed.result))
    (line-behind entry at.season.now at.events tells c.next.new.self.text
    c.next.new.self c.in-Ok-Text.number c.line_parsed.result leaves.0
    (subst (λ (content : List ℕ). AnswersLine c.in-Ok-Text.number (parsed_in tells content)
    c.line_parsed.result) c.text.ensures c.line_parsed.ensures.answer)
    c.line_parsed.ensures.may_be) leaves

pub returns-in-Ok-Text-clause-comes : goal.returns-in-Ok-Text-clause-comes
returns-in-Ok-Text-clause-comes g c =
    let entry = g.R.Reading.entry in
    let at = c.args.at.now in
    let tells = g.R.Reading.tells c.args.reading.now at.sheet.now at.season.now at.events in
    comes-of (line_as entry tells) c.in-Ok-Text.number c.next.new.self.text
    (option_map (answer_as entry) c.line_parsed.result)
    (answers-as entry c.in-Ok-Text.number (parsed_in tells c.next.new.self.text)
    c.line_parsed.result
    (subst (λ (content : List ℕ). AnswersLine c.in-Ok-Text.number (parsed_in tells content)
    c.line_parsed.result) c.text.ensures c.line_parsed.ensures.answer))

pub returns-in-Ok-Text-clause-last : goal.returns-in-Ok-Text-clause-last
returns-in-Ok-Text-clause-last g c =
    text-stops _ _ c.args.reader.now c.next.new.self _ _ c.in-Ok-Text.number _
    (option_map (answer_as g.R.Reading.entry) c.line_parsed.result)
    (answers-as g.R.Reading.entry c.in-Ok-Text.number _ c.line_parsed.result
    c.line_parsed.ensures.answer)
    c.in-Ok-Text.ensures.last

pub returns-in-Err-clause-last : goal.returns-in-Err-clause-last
returns-in-Err-clause-last g c =
    stop-stops _ _ c.args.reader.now c.next.new.self _ _ c.in-Err.stop c.in-Err.ensures.last
