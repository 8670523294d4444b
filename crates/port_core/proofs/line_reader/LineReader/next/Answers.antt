-- A line more was passed over, or the answer came after those that were.
use Rattle.std.proofs.Common.{Option, None, Some, Err, [], inl, subst, arith, refl, sym, ◌∙◌}
use Rattle.std.proofs.lemmas.Option.{none-some, same_Some}
use Rattle.port_core.specs.Contents.{Contents}
use Rattle.port_core.specs.Readers.{LineReaderView, contents_to_come}
use Rattle.port_core.specs.inside.ReaderCalls.{HasStop, NextGives, given_by}
use Rattle.port_core.proofs.AwaitedLemmas.{awaited}
use Rattle.port_core.proofs.TakingLemmas.{MovesOn-from, TakesInput-more, TakesInput-none}
use Rattle.port_core.proofs.WaitLemmas.{need-more, none-counts, stops-more, wait-gives, wait-keeps}
use Rattle.port_core.proofs.WaitLemmas.{wait-last, wait-leaves, wait-moves, wait-passes}
use Rattle.port_core.proofs.WaitLemmas.{wait-stopped}
use Rattle.port_core.proofs.PassingLemmas.{passes-none, passes-more}
use Rattle.port_core.proofs.line_reader.LineReader.next.Goals as goal

pub lines-init : goal.lines-init
lines-init g c = record {
  same = refl;
  passes = passes-none _ _ _ _ _ refl (λ unsaid. unsaid);
  last = inl (refl, refl);
  takes = TakesInput-none c.args.self.now (g.S.Source.left c.args.source.now);
  text = refl;
  answer = λ has. has;
  ready = λ has. refl;
  stopped = λ stop has. refl;
  passed = omega arith;
  counts = refl;
}

pub lines-preserved : goal.lines-preserved
lines-preserved g c =
    let ended = c.await_line-due.ensures in
    let due = c.await_line-due.result in
    let old = c.self.inside.buffer in
    let new = c.await_line-due.new.buffer in
    let line = awaited g.S.Source.left g.S.Source.reads old.held new.held old.text new.text
    (record { lines = c.self.inside.lines; bytes = c.self.inside.bytes }) c.lines.self
    c.most-most.result c.lines.source c.await_line-due.new.source due c.self.view_is
    c.self.invariant.1 c.most-most.ensures.within c.most-most.ensures.value ended.stream ended.due
    ended.text ended.within ended.takes ended.last ended.ready ended.full in
    let before = c.lines.invariant in
    let answer = c.in_default.ensures.answer in
    let taken = line.waits.takes in
    record {
      same = before.same ∙ wait-gives _ _ _ _ _ due None line.waits answer;
      passes = passes-more _ _ _ _ _ _ _ _ _ [] [] before.passes
          (wait-passes _ _ _ _ _ _ _ due None line.waits answer ended.end);
      last = need-more _ _ _ _ _ _ _ _ before.same before.takes before.last
          (wait-last _ _ _ _ _ _ _ due None line.waits answer c.end_wait.ensures.count line.last);
      takes = TakesInput-more c.args.self.now c.lines.self c.end_wait.new.self _ _ _ before.takes
          (taken.0, taken.1, c.end_wait.ensures.count ∙ taken.2);
      text = c.in_default.ensures.kept ∙ line.waits.text ∙ before.text;
      answer = λ has. wait-keeps _ _ _ _ _ due None line.waits answer (before.answer has);
      ready = λ has. line.ready (before.answer has) ∙ before.ready has;
      stopped = λ stop has.
          let here : HasStop c.lines.self stop =
          subst (λ (r : LineReaderView). HasStop r stop) (sym (before.stopped stop has)) has in
          absurd (none-some (Err stop)
          (wait-stopped _ _ _ _ _ due None line.waits answer stop here).0);
      passed = omega (arith, before.passed, wait-leaves _ _ _ _ _ due None line.waits answer);
      counts = none-counts _ _ _ _ due answer ended.cause ∙ before.counts;
    }

pub returns-in-Some-clause-gives : goal.returns-in-Some-clause-gives
returns-in-Some-clause-gives g c =
    let ended = c.await_line-due.ensures in
    let due = c.await_line-due.result in
    let old = c.self.inside.buffer in
    let new = c.await_line-due.new.buffer in
    let line = awaited g.S.Source.left g.S.Source.reads old.held new.held old.text new.text
    (record { lines = c.self.inside.lines; bytes = c.self.inside.bytes }) c.lines.self
    c.most-most.result c.lines.source c.await_line-due.new.source due c.self.view_is
    c.self.invariant.1 c.most-most.ensures.within c.most-most.ensures.value ended.stream ended.due
    ended.text ended.within ended.takes ended.last ended.ready ended.full in
    let P : Option Contents → Type 0 = λ before. NextGives before
    (contents_to_come c.end_wait.new.self (g.S.Source.left c.await_line-due.new.source))
    c.end_wait.new.self.text c.in-Some.result in
    subst P (sym c.lines.invariant.same)
    (wait-gives _ _ _ _ _ due (Some c.in-Some.result) line.waits c.in-Some.ensures.answer)

pub returns-in-Some-clause-leaves : goal.returns-in-Some-clause-leaves
returns-in-Some-clause-leaves g c =
    let ended = c.await_line-due.ensures in
    let due = c.await_line-due.result in
    let old = c.self.inside.buffer in
    let new = c.await_line-due.new.buffer in
    let line = awaited g.S.Source.left g.S.Source.reads old.held new.held old.text new.text
    (record { lines = c.self.inside.lines; bytes = c.self.inside.bytes }) c.lines.self
    c.most-most.result c.lines.source c.await_line-due.new.source due c.self.view_is
    c.self.invariant.1 c.most-most.ensures.within c.most-most.ensures.value ended.stream ended.due
    ended.text ended.within ended.takes ended.last ended.ready ended.full in
    wait-leaves _ _ _ _ _ due (Some c.in-Some.result) line.waits c.in-Some.ensures.answer

pub returns-in-Some-clause-passes : goal.returns-in-Some-clause-passes
returns-in-Some-clause-passes g c =
    let ended = c.await_line-due.ensures in
    let due = c.await_line-due.result in
    let old = c.self.inside.buffer in
    let new = c.await_line-due.new.buffer in
    let line = awaited g.S.Source.left g.S.Source.reads old.held new.held old.text new.text
    (record { lines = c.self.inside.lines; bytes = c.self.inside.bytes }) c.lines.self
    c.most-most.result c.lines.source c.await_line-due.new.source due c.self.view_is
    c.self.invariant.1 c.most-most.ensures.within c.most-most.ensures.value ended.stream ended.due
    ended.text ended.within ended.takes ended.last ended.ready ended.full in
    passes-more _ _ _ _ _ _ _ _ _ [] (given_by c.in-Some.result c.end_wait.new.self.text)
    c.lines.invariant.passes (wait-passes _ _ _ _ _ _ _ due (Some c.in-Some.result) line.waits
    c.in-Some.ensures.answer ended.end)

pub returns-in-Some-clause-moves : goal.returns-in-Some-clause-moves
returns-in-Some-clause-moves g c =
    let ended = c.await_line-due.ensures in
    let due = c.await_line-due.result in
    let old = c.self.inside.buffer in
    let new = c.await_line-due.new.buffer in
    let line = awaited g.S.Source.left g.S.Source.reads old.held new.held old.text new.text
    (record { lines = c.self.inside.lines; bytes = c.self.inside.bytes }) c.lines.self
    c.most-most.result c.lines.source c.await_line-due.new.source due c.self.view_is
    c.self.invariant.1 c.most-most.ensures.within c.most-most.ensures.value ended.stream ended.due
    ended.text ended.within ended.takes ended.last ended.ready ended.full in
    MovesOn-from c.args.self.now c.lines.self c.end_wait.new.self c.in-Some.result
    c.lines.invariant.passed
    (wait-moves _ _ _ _ _ due (Some c.in-Some.result) line.waits c.in-Some.ensures.answer)

pub returns-in-Some-clause-takes : goal.returns-in-Some-clause-takes
returns-in-Some-clause-takes g c =
    let ended = c.await_line-due.ensures in
    let due = c.await_line-due.result in
    let old = c.self.inside.buffer in
    let new = c.await_line-due.new.buffer in
    let line = awaited g.S.Source.left g.S.Source.reads old.held new.held old.text new.text
    (record { lines = c.self.inside.lines; bytes = c.self.inside.bytes }) c.lines.self
    c.most-most.result c.lines.source c.await_line-due.new.source due c.self.view_is
    c.self.invariant.1 c.most-most.ensures.within c.most-most.ensures.value ended.stream ended.due
    ended.text ended.within ended.takes ended.last ended.ready ended.full in
    let taken = line.waits.takes in
    TakesInput-more c.args.self.now c.lines.self c.end_wait.new.self _ _ _
    c.lines.invariant.takes (taken.0, taken.1, c.end_wait.ensures.count ∙ taken.2)

pub returns-in-Some-clause-ready : goal.returns-in-Some-clause-ready
returns-in-Some-clause-ready g c =
    let ended = c.await_line-due.ensures in
    let due = c.await_line-due.result in
    let old = c.self.inside.buffer in
    let new = c.await_line-due.new.buffer in
    let line = awaited g.S.Source.left g.S.Source.reads old.held new.held old.text new.text
    (record { lines = c.self.inside.lines; bytes = c.self.inside.bytes }) c.lines.self
    c.most-most.result c.lines.source c.await_line-due.new.source due c.self.view_is
    c.self.invariant.1 c.most-most.ensures.within c.most-most.ensures.value ended.stream ended.due
    ended.text ended.within ended.takes ended.last ended.ready ended.full in
    λ has. line.ready (c.lines.invariant.answer has) ∙ c.lines.invariant.ready has

pub returns-in-Some-clause-last : goal.returns-in-Some-clause-last
returns-in-Some-clause-last g c =
    let ended = c.await_line-due.ensures in
    let due = c.await_line-due.result in
    let old = c.self.inside.buffer in
    let new = c.await_line-due.new.buffer in
    let line = awaited g.S.Source.left g.S.Source.reads old.held new.held old.text new.text
    (record { lines = c.self.inside.lines; bytes = c.self.inside.bytes }) c.lines.self
    c.most-most.result c.lines.source c.await_line-due.new.source due c.self.view_is
    c.self.invariant.1 c.most-most.ensures.within c.most-most.ensures.value ended.stream ended.due
    ended.text ended.within ended.takes ended.last ended.ready ended.full in
    stops-more _ _ _ _ _ _ _ _ c.in-Some.result c.lines.invariant.same c.lines.invariant.takes
    c.lines.invariant.last (wait-last _ _ _ _ _ _ _ due (Some c.in-Some.result) line.waits
    c.in-Some.ensures.answer c.end_wait.ensures.count line.last)

pub returns-in-Some-clause-stopped : goal.returns-in-Some-clause-stopped
returns-in-Some-clause-stopped g c =
    let ended = c.await_line-due.ensures in
    let due = c.await_line-due.result in
    let old = c.self.inside.buffer in
    let new = c.await_line-due.new.buffer in
    let line = awaited g.S.Source.left g.S.Source.reads old.held new.held old.text new.text
    (record { lines = c.self.inside.lines; bytes = c.self.inside.bytes }) c.lines.self
    c.most-most.result c.lines.source c.await_line-due.new.source due c.self.view_is
    c.self.invariant.1 c.most-most.ensures.within c.most-most.ensures.value ended.stream ended.due
    ended.text ended.within ended.takes ended.last ended.ready ended.full in
    λ stop has.
    let same = c.lines.invariant.stopped stop has in
    let here : HasStop c.lines.self stop =
    subst (λ (r : LineReaderView). HasStop r stop) (sym same) has in
    let stops = wait-stopped _ _ _ _ _ due (Some c.in-Some.result) line.waits
    c.in-Some.ensures.answer stop here in
    (same_Some _ _ stops.0, stops.1 ∙ same)
