use Rattle.reference_programs.proofs.TestLemmas.{tests_of_nodes, tests_of_splits}
use Rattle.reference_programs.proofs.boxed.BoxedTree.has_tests_of.Goals as goal

pub returns : goal.returns
returns c = (
  λ has. tests_of_nodes c.args.sheet.now c.args.self.now (c.has_splits_of.ensures.0 has),
  λ are. c.has_splits_of.ensures.1 (tests_of_splits c.args.sheet.now c.args.self.now are),
)
