use Rattle.std.proofs.Common.{◌≡◌, ◌∙◌, false, arith}
use Rattle.std.proofs.lemmas.Grind.{common_steps}
use Rattle.line_tokens.specs.Tokens.{counts}
use Rattle.cert_check.proofs.CallLemmas.{line_reads, line_passes}
use Rattle.cert_check.proofs.report.Report.next.Goals as goal

pub returns-then-counts : goal.returns-then-counts
returns-then-counts c = record {
  behind = grind (arith, common_steps);
  within = grind (arith, common_steps);
  fits = grind (arith, common_steps);
  there = c.in_ok-token.ensures;
  counted = grind (arith, common_steps);
  reads = λ due dues unsettled. c.loop-at.invariant due dues unsettled
      ∙ line_reads c.args.self.now c.loop-at.at c.in_ok-token.token c.in_ok-token.ensures due
      dues unsettled;
}

pub loop-at-preserved : goal.loop-at-preserved
loop-at-preserved c = λ due dues unsettled.
    let passed : counts c.in_ok-token.token ≡ false = grind (arith, common_steps) in
    c.loop-at.invariant due dues unsettled
    ∙ line_passes c.args.self.now c.loop-at.at c.in_ok-token.token c.in_ok-token.ensures passed
    due dues unsettled
