use Rattle.std.proofs.Common.{Bool, true, false, Ok, Err, refl, sym, ap, subst, ◌∙◌, arith}
use Rattle.std.proofs.Common.{inl, length}
use Rattle.port_core.specs.Readers.{contents_to_come}
use Rattle.port_core.proofs.TakingLemmas.{TakesInput-more, TakesInput-none}
use Rattle.fixture_sheet.proofs.PassedLemmas.{PassesLines-none}
use Rattle.pool_save.specs.SavedReadings.{SaveState}
use Rattle.pool_save.specs.inside.Calls.{LeadsSaved, ReadsSavedAs, saved_answer_after}
use Rattle.pool_save.specs.inside.SoFar.{IsSaveState}
use Rattle.pool_save.proofs.ReadingLemmas.{leads-nothing}
use Rattle.pool_save.proofs.SoFarLemmas.{nothing_sound}
use Rattle.pool_save.proofs.PassedLemmas.{PassesUpTo-after, PassesUpTo-lines}
use Rattle.pool_save.proofs.StopLemmas.{saved-further, saved-stops}
use Rattle.pool_save.proofs.reader.read_items.Goals as goal

pub lines-init : goal.lines-init
lines-init g c =
    let start = contents_to_come c.args.reader.now (g.S.Source.left c.args.source.now) in
    let is = c.begin-held.ensures in
    let Leads : SaveState → Type 0 =
    λ s. LeadsSaved c.args.sheet.now c.args.asked.now start start s in
    let Sound : SaveState → Type 0 = λ s. IsSaveState c.args.sheet.now c.args.asked.now s in
    let none = ap (λ (s : SaveState). length s.nodes) is in
    record {
      leads = subst Leads (sym is) (leads-nothing c.args.sheet.now c.args.asked.now start);
      sound = subst Sound (sym is) (nothing_sound c.args.sheet.now c.args.asked.now);
      few = omega (arith, none);
      within = omega (arith, none);
      passes = PassesLines-none c.args.reader.now (g.S.Source.left c.args.source.now)
          (g.S.Source.ended c.args.source.now);
      takes = TakesInput-none c.args.reader.now (g.S.Source.left c.args.source.now);
      last = inl (refl, refl);
      counts = refl;
    }

pub lines-preserved : goal.lines-preserved
lines-preserved g c =
    let reads = rw c.in-Ok-false.field-0-test at c.in-Ok-false.ensures.reads in
    let sound = rw c.in-Ok-false.field-0-test at c.in-Ok-false.ensures.sound in
    let few = rw c.in-Ok-false.field-0-test at c.in-Ok-false.ensures.few in
    let moves = rw c.in-Ok-false.field-0-test at c.in-Ok-false.ensures.moves in
    let last = c.in-Ok-false.ensures.last in
    record {
      leads = reads _ c.lines.invariant.leads;
      sound = sound;
      few = omega (arith, moves.0, few, c.lines.invariant.few);
      within = omega (arith, moves.0, moves.1, few, c.lines.invariant.few);
      passes = PassesUpTo-lines c.args.reader.now c.lines.reader c.take_line.new.reader _ _ _ _ _ _
          (saved_answer_after {A = Bool} c.take_line.new.reader (Ok false))
          c.lines.invariant.passes c.in-Ok-false.ensures.passes;
      takes = TakesInput-more c.args.reader.now c.lines.reader c.take_line.new.reader _ _ _
          c.lines.invariant.takes c.take_line.ensures.takes;
      last = saved-further _ _ c.args.sheet.now c.args.asked.now c.args.reader.now c.lines.reader
          c.take_line.new.reader _ _ _ c.lines.held c.lines.invariant.leads
          c.lines.invariant.takes c.lines.invariant.last last;
      counts = c.in-Ok-false.ensures.cause ∙ c.lines.invariant.counts;
    }

pub returns-in-Ok-true-clause-reads : goal.returns-in-Ok-true-clause-reads
returns-in-Ok-true-clause-reads g c =
    let reads = rw c.in-Ok-true.field-0-test at c.in-Ok-true.ensures.reads in
    let P : SaveState → Type 0 = λ s. ReadsSavedAs c.args.sheet.now c.args.asked.now
    (contents_to_come c.args.reader.now (g.S.Source.left c.args.source.now))
    (contents_to_come c.take_line.new.reader (g.S.Source.left c.take_line.new.source))
    (Ok s.trees) in
    subst P (sym c.held.view_is) (reads _ c.lines.invariant.leads)

pub returns-in-Ok-true-clause-passes : goal.returns-in-Ok-true-clause-passes
returns-in-Ok-true-clause-passes g c =
    PassesUpTo-after c.args.reader.now c.lines.reader c.take_line.new.reader _ _ _ _ _ _
    (saved_answer_after {A = Bool} c.take_line.new.reader (Ok true))
    c.lines.invariant.passes c.in-Ok-true.ensures.passes

pub returns-in-Ok-true-clause-takes : goal.returns-in-Ok-true-clause-takes
returns-in-Ok-true-clause-takes g c =
    TakesInput-more c.args.reader.now c.lines.reader c.take_line.new.reader _ _ _
    c.lines.invariant.takes c.take_line.ensures.takes

pub returns-in-Ok-true-clause-last : goal.returns-in-Ok-true-clause-last
returns-in-Ok-true-clause-last g c =
    let last = c.in-Ok-true.ensures.last in
    saved-further _ _ c.args.sheet.now c.args.asked.now c.args.reader.now c.lines.reader
    c.take_line.new.reader _ _ _ c.lines.held c.lines.invariant.leads c.lines.invariant.takes
    c.lines.invariant.last last

pub returns-in-Err-clause-reads : goal.returns-in-Err-clause-reads
returns-in-Err-clause-reads g c = c.in-Err.ensures.reads _ c.lines.invariant.leads

pub returns-in-Err-clause-passes : goal.returns-in-Err-clause-passes
returns-in-Err-clause-passes g c =
    PassesUpTo-after c.args.reader.now c.lines.reader c.take_line.new.reader _ _ _ _ _ _
    (saved_answer_after {A = Bool} c.take_line.new.reader (Err c.in-Err.stop))
    c.lines.invariant.passes c.in-Err.ensures.passes

pub returns-in-Err-clause-takes : goal.returns-in-Err-clause-takes
returns-in-Err-clause-takes g c =
    TakesInput-more c.args.reader.now c.lines.reader c.take_line.new.reader _ _ _
    c.lines.invariant.takes c.take_line.ensures.takes

pub returns-in-Err-clause-last : goal.returns-in-Err-clause-last
returns-in-Err-clause-last g c =
    saved-stops _ _ c.args.sheet.now c.args.asked.now c.args.reader.now c.lines.reader
    c.take_line.new.reader _ _ _ c.lines.held c.in-Err.stop c.lines.invariant.leads
    c.lines.invariant.takes c.lines.invariant.last c.in-Err.ensures.last
