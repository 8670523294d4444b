-- The saved text, by what came of it.
use Rattle.std.proofs.Common.{Err, subst}
use Rattle.port_core.specs.Readers.{contents_to_come}
use Rattle.answer_rows.specs.AskedQuestions.{questions_of}
use Rattle.pool_save.specs.inside.Calls.{ReadsSaved, StopsBySave}
use Rattle.session_turns.proofs.OpeningLemmas.{saved-come, saved-counts, saved-ends, saved-path}
use Rattle.session_turns.proofs.OpeningLemmas.{saved-starved}
use Rattle.session_turns.proofs.OpeningLemmas.{saved-stop, taken-ends, taken-gives}
use Rattle.session_turns.proofs.opening.take_saved.Goals as goal

pub returns-in-Ok-take_up-clause-way : goal.returns-in-Ok-take_up-clause-way
returns-in-Ok-take_up-clause-way g c = λ proofs input ended old now path.
    taken-gives proofs input ended c.args.pool c.in-Ok-take_up.next c.in-Ok.trees.items _ _ _
    (g.S.Source.left c.read_saved.new.source) old now c.in-Ok-take_up.ensures.taken
    c.requires.unworked
    (saved-path proofs input ended c.args.reader.now c.read_saved.new.reader
    (g.S.Source.left c.args.source.now) (g.S.Source.left c.read_saved.new.source)
    (g.S.Source.ended c.args.source.now) (g.S.Source.ended c.read_saved.new.source)
    c.args.pool.sheet c.args.pool.log old now path c.in-Ok.trees.items c.in-Ok.ensures.passes
    (rw c.sheet.ensures.sheet at c.in-Ok.ensures.reads))

pub returns-in-Ok-take_up-clause-last : goal.returns-in-Ok-take_up-clause-last
returns-in-Ok-take_up-clause-last g c = λ proofs first come.
    saved-come g.S.Source.left g.S.Source.reads proofs first c.args.reader.now
    c.read_saved.new.reader c.args.source.now c.read_saved.new.source c.args.pool come
    c.in-Ok-take_up.next c.in-Ok.trees.items _ _ c.in-Ok.ensures.passes
    (rw c.sheet.ensures.sheet at c.in-Ok.ensures.reads) c.read_saved.ensures.takes
    (rw c.sheet.ensures.sheet at c.in-Ok.ensures.last) c.in-Ok-take_up.ensures.taken
    c.requires.unworked

pub returns-in-Err-take_up-clause-way : goal.returns-in-Err-take_up-clause-way
returns-in-Err-take_up-clause-way g c = λ proofs input ended old now path.
    saved-starved proofs input ended c.args.reader.now c.read_saved.new.reader
    (g.S.Source.left c.args.source.now) (g.S.Source.left c.read_saved.new.source)
    (g.S.Source.ended c.args.source.now) (g.S.Source.ended c.read_saved.new.source)
    c.args.pool.sheet c.args.pool.log old now path

pub returns-in-Err-take_up-clause-last : goal.returns-in-Err-take_up-clause-last
returns-in-Err-take_up-clause-last g c = λ proofs first come.
    taken-ends g.S.Source.left g.S.Source.reads proofs first c.args.reader.now
    c.read_saved.new.reader c.args.source.now c.read_saved.new.source c.args.pool come
    (rw c.sheet.ensures.sheet at c.in-Ok.ensures.last)

pub returns-in-Err-clause-way : goal.returns-in-Err-clause-way
returns-in-Err-clause-way g c = λ proofs input ended old now path.
    rw c.stop_of_save.ensures (saved-stop proofs input ended c.args.reader.now
    c.read_saved.new.reader (g.S.Source.left c.args.source.now)
    (g.S.Source.left c.read_saved.new.source) (g.S.Source.ended c.args.source.now)
    (g.S.Source.ended c.read_saved.new.source) c.args.pool.sheet c.args.pool.log old now path
    c.read_saved.result c.in-Err.stop c.in-Err.is c.read_saved.ensures.passes
    (subst (λ sheet. ReadsSaved sheet (questions_of sheet)
    (contents_to_come c.args.reader.now (g.S.Source.left c.args.source.now))
    (contents_to_come c.read_saved.new.reader (g.S.Source.left c.read_saved.new.source))
    (Err c.in-Err.stop)) c.sheet.ensures.sheet c.in-Err.ensures.reads)
    c.read_saved.ensures.leaves)

pub returns-in-Err-clause-last : goal.returns-in-Err-clause-last
returns-in-Err-clause-last g c = λ proofs first come.
    rw c.stop_of_save.ensures (saved-ends g.S.Source.left g.S.Source.reads proofs first
    c.args.reader.now c.read_saved.new.reader c.args.source.now c.read_saved.new.source c.args.pool
    come c.in-Err.stop
    (subst (λ sheet. StopsBySave sheet (questions_of sheet) g.S.Source.left g.S.Source.reads
    c.args.reader.now c.read_saved.new.reader c.args.source.now c.read_saved.new.source
    c.in-Err.stop) c.sheet.ensures.sheet c.in-Err.ensures.last))

pub returns-in-Err-clause-counts : goal.returns-in-Err-clause-counts
returns-in-Err-clause-counts g c =
    rw c.stop_of_save.ensures (saved-counts (g.S.Source.faults c.args.source.now)
    (g.S.Source.faults c.read_saved.new.source) c.read_saved.result c.in-Err.stop c.in-Err.is
    c.read_saved.ensures.cause)
