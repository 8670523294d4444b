use Rattle.std.proofs.Common.{◌≡◌, false, arith}
use Rattle.std.proofs.lemmas.Grind.{common_steps}
use Rattle.cup_grammar.specs.inside.CupRowTruths.{counts_in_cup}
use Rattle.cup_check.proofs.CupCallLemmas.{line_reads, line_passes}
use Rattle.cup_check.proofs.report.CupReport.counted.Goals as goal

pub returns-then-counts_in_cup-clause-found : goal.returns-then-counts_in_cup-clause-found
returns-then-counts_in_cup-clause-found c = record {
  behind = grind (arith, common_steps);
  within = c.requires.within;
  fits = c.requires.room;
  there = c.in_ok-token.ensures.there;
  counted = record {
    counts = grind (arith, common_steps);
    in_range = c.in_ok-token.ensures.ranges;
  };
  reads = line_reads c.args.self.now c.args.at c.in_ok-token.token c.in_ok-token.ensures.there;
}

pub returns-else-counts_in_cup-clause-passed : goal.returns-else-counts_in_cup-clause-passed
returns-else-counts_in_cup-clause-passed c = λ none.
    let passed : counts_in_cup c.in_ok-token.token ≡ false = grind (arith, common_steps) in
    line_passes c.args.self.now c.args.at c.in_ok-token.token c.in_ok-token.ensures.there passed
