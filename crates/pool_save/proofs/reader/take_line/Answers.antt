use Rattle.std.proofs.Common.{Ok, [], ◌∷◌, sym, ap, ◌∙◌, subst, length}
use Rattle.port_core.specs.declared.line.Line.TheVariants.{Text, End}
use Rattle.port_core.specs.Contents.{Contents}
use Rattle.fixture_sheet.specs.inside.Calls.{refused_before}
use Rattle.fixture_sheet.proofs.PassedLemmas.{refused-end, refused-line}
use Rattle.line_tokens.specs.Tokens.{token_of}
use Rattle.pool_save.specs.SavedReadings.{save_taken}
use Rattle.pool_save.proofs.SoFarLemmas.{IsSoundStep, IsFewStep, taken_sound, taken_few}
use Rattle.pool_save.proofs.ReadingLemmas.{line-leads, line-taken, line-whole, line-bad}
use Rattle.pool_save.proofs.ReadingLemmas.{end-reads, stop-reads}
use Rattle.pool_save.proofs.PassedLemmas.{PassesUpTo-one}
use Rattle.pool_save.proofs.reader.take_line.Goals as goal

pub returns-in-Ok-On-clause-reads : goal.returns-in-Ok-On-clause-reads
returns-in-Ok-On-clause-reads g c = λ start leads.
    let gives = rw c.in-Ok-Text.field-0-is at c.in-Ok-Text.ensures.gives in
    let step = rw c.in-Ok-On.field-0-is at c.in-Ok-On.ensures in
    line-leads c.args.sheet.now c.args.asked.now start _ _ c.args.held.now c.in-Ok-Text.number
    c.next.new.self.text leads gives c.take_text.new.held
    (step ∙ ap (λ t. save_taken c.args.sheet.now c.args.asked.now c.args.held.now (token_of t))
    c.text.ensures)

pub returns-in-Ok-On-clause-sound : goal.returns-in-Ok-On-clause-sound
returns-in-Ok-On-clause-sound g c =
    let step = rw c.in-Ok-On.field-0-is at c.in-Ok-On.ensures in
    subst (IsSoundStep c.args.sheet.now c.args.asked.now) (sym step)
    (taken_sound c.args.sheet.now c.args.asked.now c.args.held.now (token_of c.text.result.now)
    c.requires.sound)

pub returns-in-Ok-On-clause-few : goal.returns-in-Ok-On-clause-few
returns-in-Ok-On-clause-few g c =
    let step = rw c.in-Ok-On.field-0-is at c.in-Ok-On.ensures in
    subst (IsFewStep (length c.args.held.now.nodes)) (sym step)
    (taken_few c.args.sheet.now c.args.asked.now c.args.held.now (token_of c.text.result.now))

pub returns-in-Ok-Whole-clause-sound : goal.returns-in-Ok-Whole-clause-sound
returns-in-Ok-Whole-clause-sound g c =
    let step = rw c.in-Ok-Whole.field-0-is at c.in-Ok-Whole.ensures in
    subst (IsSoundStep c.args.sheet.now c.args.asked.now) (sym step)
    (taken_sound c.args.sheet.now c.args.asked.now c.args.held.now (token_of c.text.result.now)
    c.requires.sound)

pub returns-in-Err-take_text-clause-reads : goal.returns-in-Err-take_text-clause-reads
returns-in-Err-take_text-clause-reads g c = λ start leads.
    let gives = rw c.in-Ok-Text.field-0-is at c.in-Ok-Text.ensures.gives in
    line-taken c.args.sheet.now c.args.asked.now start _ _ c.args.held.now c.in-Ok-Text.number
    c.next.new.self.text leads gives

pub returns-in-Err-clause-reads : goal.returns-in-Err-clause-reads
returns-in-Err-clause-reads g c = λ start leads.
    stop-reads c.args.sheet.now c.args.asked.now start _ _ c.args.held.now leads
    c.next.new.self.text c.in-Err.stop c.in-Err.ensures.gives

pub returns-in-Ok-On-clause-passes : goal.returns-in-Ok-On-clause-passes
returns-in-Ok-On-clause-passes g c =
    let passes = rw c.in-Ok-Text.field-0-is at c.in-Ok-Text.ensures.passes in
    let leaves = rw c.in-Ok-Text.field-0-is at c.in-Ok-Text.ensures.leaves in
    PassesUpTo-one c.args.reader.now c.next.new.self _ _ _ _ (Ok (Text c.in-Ok-Text.number))
    (Ok (Text c.next.new.self.position.lines))
    (ap (λ n. Ok (Text n)) (sym leaves.0)) passes

pub returns-in-Ok-Whole-clause-passes : goal.returns-in-Ok-Whole-clause-passes
returns-in-Ok-Whole-clause-passes g c =
    let passes = rw c.in-Ok-Text.field-0-is at c.in-Ok-Text.ensures.passes in
    let leaves = rw c.in-Ok-Text.field-0-is at c.in-Ok-Text.ensures.leaves in
    PassesUpTo-one c.args.reader.now c.next.new.self _ _ _ _ (Ok (Text c.in-Ok-Text.number))
    (Ok (Text c.next.new.self.position.lines))
    (ap (λ n. Ok (Text n)) (sym leaves.0)) passes

pub returns-in-Ok-Bad-clause-passes : goal.returns-in-Ok-Bad-clause-passes
returns-in-Ok-Bad-clause-passes g c =
    let passes = rw c.in-Ok-Text.field-0-is at c.in-Ok-Text.ensures.passes in
    let leaves = rw c.in-Ok-Text.field-0-is at c.in-Ok-Text.ensures.leaves in
    PassesUpTo-one c.args.reader.now c.next.new.self _ _ _ _ (Ok (Text c.in-Ok-Text.number))
    (Ok (refused_before c.next.new.self.position c.in-Ok-Text.number))
    (ap Ok (refused-line c.next.new.self.position c.in-Ok-Text.number leaves.0)) passes

pub returns-in-Ok-End-clause-passes : goal.returns-in-Ok-End-clause-passes
returns-in-Ok-End-clause-passes g c =
    let passes = rw c.in-Ok-End.field-0-is at c.in-Ok-End.ensures.passes in
    let leaves = rw c.in-Ok-End.field-0-is at c.in-Ok-End.ensures.leaves in
    PassesUpTo-one c.args.reader.now c.next.new.self _ _ _ _ (Ok (End c.in-Ok-End.number))
    (Ok (refused_before c.next.new.self.position c.in-Ok-End.number))
    (ap Ok (refused-end c.next.new.self.position c.in-Ok-End.number leaves.0)) passes

pub returns-in-Err-take_text-clause-passes : goal.returns-in-Err-take_text-clause-passes
returns-in-Err-take_text-clause-passes g c =
    let passes = rw c.in-Ok-Text.field-0-is at c.in-Ok-Text.ensures.passes in
    ((c.in-Ok-Text.number, c.next.new.self.text) ∷ [], passes)

pub returns-in-Err-clause-passes : goal.returns-in-Err-clause-passes
returns-in-Err-clause-passes g c = ([], c.in-Err.ensures.passes)
