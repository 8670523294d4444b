use Rattle.std.proofs.Common.{refl, inl, subst, ◌∙◌}
use Rattle.std.specs.Prelude.{IfOk}
use Rattle.answer_rows.specs.AskedQuestions.{questions_of}
use Rattle.pool_save.specs.SavedTexts.{AreSavedTrees}
use Rattle.port_core.specs.declared.line.ReadStop.TheVariants.{ReadFault}
use Rattle.port_core.specs.Readers.{contents_to_come}
use Rattle.port_core.proofs.TakingLemmas.{TakesInput-none}
use Rattle.pool_save.proofs.ReadingLemmas.{no_line_taken}
use Rattle.pool_save.proofs.PassedLemmas.{PassesUpTo-none}
use Rattle.pool_save.proofs.SoFarLemmas.{given_are_asked}
use Rattle.pool_save.proofs.reader.read_saved.Goals as goal

pub returns-in-Ok-clause-asked : goal.returns-in-Ok-clause-asked
returns-in-Ok-clause-asked g c =
    given_are_asked c.args.sheet.now (questions_of c.args.sheet.now) c.read_items.result
    (λ trees. trees.items)
    (subst (λ asked. IfOk c.read_items.result
    (λ trees. AreSavedTrees c.args.sheet.now asked trees.items))
    (c.as_slice.ensures.value ∙ c.in-Ok.ensures.value) c.read_items.ensures.trees)

pub returns-in-Err-clause-reads : goal.returns-in-Err-clause-reads
returns-in-Err-clause-reads g c =
    no_line_taken (contents_to_come c.args.reader.now (g.S.Source.left c.args.source.now))

pub returns-in-Err-clause-passes : goal.returns-in-Err-clause-passes
returns-in-Err-clause-passes g c =
    PassesUpTo-none c.args.reader.now (g.S.Source.left c.args.source.now)
    (g.S.Source.ended c.args.source.now) ReadFault

pub returns-in-Err-clause-takes : goal.returns-in-Err-clause-takes
returns-in-Err-clause-takes g c =
    TakesInput-none c.args.reader.now (g.S.Source.left c.args.source.now)

pub returns-in-Err-clause-last : goal.returns-in-Err-clause-last
returns-in-Err-clause-last g c = inl (refl, refl)
