use Rattle.std.proofs.Common.{Ok, Err, refl, sym, ◌∙◌, subst, arith}
use Rattle.result_log.specs.declared.entry.Entry.TheVariants.{Ask, End}
use Rattle.cup_turns.specs.declared.round.CupSoFar.{CupSoFar}
use Rattle.cup_turns.specs.inside.CupRounds.{IsReadOn, WasRead}
use Rattle.cup_turns.proofs.CupRoundLemmas.{on-further, on-nowhere, on-over, read-of_sheet}
use Rattle.cup_turns.proofs.CupRoundLemmas.{was-told}
use Rattle.cup_turns.proofs.round.read_on.Goals as goal

pub entries-init : goal.entries-init
entries-init g c = record {
  read = c.requires.read;
  come = λ log stands. on-nowhere g.S.Source.left g.S.Source.ended g.S.Source.faults
      g.S.Source.reads c.args.sheet.now log c.args.so_far.now c.args.reader.now c.args.source.now
      stands;
  forth = omega arith;
  counts = refl;
}

pub next_entry-requires-clause-of_sheet : goal.next_entry-requires-clause-of_sheet
next_entry-requires-clause-of_sheet g c =
    read-of_sheet c.args.sheet.now c.entries.so_far c.entries.invariant.read

pub entries-preserved : goal.entries-preserved
entries-preserved g c =
    let before = c.entries.invariant in
    let next = c.in-Ok-Change.ensures in
    let may = (rw c.in-Ok-Change.field-0-is at next.is_entry).0 in
    let moves = rw c.in-Ok-Change.field-0-is at next.moves in
    record {
      read = subst (λ s. WasRead c.args.sheet.now s) (sym c.take.ensures)
          (was-told c.args.sheet.now c.entries.so_far c.in-Ok-Change.event before.read may);
      come = λ log stands.
          let P : CupSoFar → Type 0 = λ s. IsReadOn g.S.Source.left g.S.Source.ended
          g.S.Source.faults g.S.Source.reads c.args.sheet.now log s c.args.reader.now
          c.next_entry.new.reader c.args.source.now c.next_entry.new.source in
          subst P (sym c.take.ensures)
          (on-further g.S.Source.left g.S.Source.ended g.S.Source.faults g.S.Source.reads
          c.args.sheet.now log c.entries.so_far c.args.reader.now c.entries.reader
          c.next_entry.new.reader c.args.source.now c.entries.source c.next_entry.new.source
          c.in-Ok-Change.event (before.come log stands)
          (rw c.in-Ok-Change.field-0-is at next.passes)
          (rw c.in-Ok-Change.field-0-is at next.leaves)
          (rw c.in-Ok-Change.field-0-is at next.reads) next.takes moves next.cause next.last may);
      forth = omega (arith, before.forth, moves.0);
      counts = next.cause ∙ before.counts;
    }

pub returns-in-Ok-Ask-clause-round : goal.returns-in-Ok-Ask-clause-round
returns-in-Ok-Ask-clause-round g c = λ log stands.
    on-over g.S.Source.left g.S.Source.ended g.S.Source.faults g.S.Source.reads c.args.sheet.now log
    c.entries.so_far c.args.reader.now c.entries.reader c.next_entry.new.reader c.args.source.now
    c.entries.source c.next_entry.new.source (Ok Ask) (c.entries.invariant.come log stands)
    (rw c.in-Ok-Ask.field-0-is at c.in-Ok-Ask.ensures.passes)
    (rw c.in-Ok-Ask.field-0-is at c.in-Ok-Ask.ensures.leaves)
    (rw c.in-Ok-Ask.field-0-is at c.in-Ok-Ask.ensures.reads) c.in-Ok-Ask.ensures.takes
    (rw c.in-Ok-Ask.field-0-is at c.in-Ok-Ask.ensures.moves)
    c.in-Ok-Ask.ensures.cause
    c.in-Ok-Ask.ensures.last

pub returns-in-Ok-End-clause-round : goal.returns-in-Ok-End-clause-round
returns-in-Ok-End-clause-round g c = λ log stands.
    on-over g.S.Source.left g.S.Source.ended g.S.Source.faults g.S.Source.reads c.args.sheet.now log
    c.entries.so_far c.args.reader.now c.entries.reader c.next_entry.new.reader c.args.source.now
    c.entries.source c.next_entry.new.source (Ok End) (c.entries.invariant.come log stands)
    (rw c.in-Ok-End.field-0-is at c.in-Ok-End.ensures.passes)
    (rw c.in-Ok-End.field-0-is at c.in-Ok-End.ensures.leaves)
    (rw c.in-Ok-End.field-0-is at c.in-Ok-End.ensures.reads) c.in-Ok-End.ensures.takes
    (rw c.in-Ok-End.field-0-is at c.in-Ok-End.ensures.moves)
    c.in-Ok-End.ensures.cause
    c.in-Ok-End.ensures.last

pub returns-in-Err-clause-round : goal.returns-in-Err-clause-round
returns-in-Err-clause-round g c = λ log stands.
    on-over g.S.Source.left g.S.Source.ended g.S.Source.faults g.S.Source.reads c.args.sheet.now log
    c.entries.so_far c.args.reader.now c.entries.reader c.next_entry.new.reader c.args.source.now
    c.entries.source c.next_entry.new.source (Err c.in-Err.stop)
    (c.entries.invariant.come log stands) c.in-Err.ensures.passes c.in-Err.ensures.leaves
    c.in-Err.ensures.reads c.in-Err.ensures.takes c.in-Err.ensures.moves c.in-Err.ensures.cause
    c.in-Err.ensures.last
