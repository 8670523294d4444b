use Rattle.std.proofs.Common.{List, ℕ, ap, ◌∙◌, refl, sym, subst, ◌++◌, [], ◌∷◌, Option}
use Rattle.port_core.specs.Contents.{Contents}
use Rattle.port_core.specs.Readers.{contents_to_come}
use Rattle.port_core.proofs.TakingLemmas.{TakesInput-more, TakesInput-none}
use Rattle.cert_check.proofs.InputLemmas.{LinesKept, kept-none, kept-more, kept-end, kept-stop}
use Rattle.cert_check.proofs.lines.read_lines.Goals as goal

pub lines-init : goal.lines-init
lines-init g c = record {
  kept = λ contents is.
      let P : Option Contents → Type 0 = λ known. LinesKept contents known c.args.empty in
      subst P (sym is) (kept-none contents c.args.empty c.requires);
  takes = TakesInput-none c.args.reader.now (g.S.Source.left c.args.source.now);
  counts = refl;
}

pub lines-preserved : goal.lines-preserved
lines-preserved g c =
    let gives = rw c.in-Ok-Text.field-0-is at c.in-Ok-Text.ensures.gives in
    record {
      kept = λ contents is.
          kept-more contents (contents_to_come c.lines.reader (g.S.Source.left c.lines.source))
          (contents_to_come c.next.new.self (g.S.Source.left c.next.new.source)) c.lines.lines
          c.add.new.self c.in-Ok-Text.number c.next.new.self.text
          (c.lines.invariant.kept contents is) gives
          (c.in_ok-add-in-Ok-Text.ensures.ok
          ∙ ap (λ (text : List ℕ). c.lines.lines
          ++ record { number = c.in-Ok-Text.number; text = text } ∷ []) c.text.ensures);
      takes = TakesInput-more c.args.reader.now c.lines.reader c.next.new.self _ _ _
          c.lines.invariant.takes c.next.ensures.takes;
      counts = c.in-Ok-Text.ensures.cause ∙ c.lines.invariant.counts;
    }

pub returns-in_err-add-in-Ok-Text-clause-takes : goal.returns-in_err-add-in-Ok-Text-clause-takes
returns-in_err-add-in-Ok-Text-clause-takes g c =
    TakesInput-more c.args.reader.now c.lines.reader c.next.new.self _ _ _
    c.lines.invariant.takes c.next.ensures.takes

pub returns-in-Ok-End-clause-reads : goal.returns-in-Ok-End-clause-reads
returns-in-Ok-End-clause-reads g c = λ contents is.
    let gives = rw c.in-Ok-End.field-0-is at c.in-Ok-End.ensures.gives in
    kept-end contents (contents_to_come c.lines.reader (g.S.Source.left c.lines.source))
    (contents_to_come c.next.new.self (g.S.Source.left c.next.new.source)) c.lines.lines
    (record { lines = c.lines.lines; end = c.in-Ok-End.number }) c.next.new.self.text
    c.in-Ok-End.number (c.lines.invariant.kept contents is) gives refl refl

pub returns-in-Ok-End-clause-takes : goal.returns-in-Ok-End-clause-takes
returns-in-Ok-End-clause-takes g c =
    TakesInput-more c.args.reader.now c.lines.reader c.next.new.self _ _ _
    c.lines.invariant.takes c.next.ensures.takes

pub returns-in-Err-clause-reads : goal.returns-in-Err-clause-reads
returns-in-Err-clause-reads g c = λ contents is.
    kept-stop contents (contents_to_come c.lines.reader (g.S.Source.left c.lines.source))
    (contents_to_come c.next.new.self (g.S.Source.left c.next.new.source)) c.lines.lines
    c.next.new.self.text c.in-Err.stop (c.lines.invariant.kept contents is) c.in-Err.ensures.gives

pub returns-in-Err-clause-takes : goal.returns-in-Err-clause-takes
returns-in-Err-clause-takes g c =
    TakesInput-more c.args.reader.now c.lines.reader c.next.new.self _ _ _
    c.lines.invariant.takes c.next.ensures.takes
