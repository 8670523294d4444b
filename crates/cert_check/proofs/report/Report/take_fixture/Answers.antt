use Rattle.cert_check.proofs.ExampleLemmas.{ending_is_score}
use Rattle.cert_check.proofs.report.Report.take_fixture.Goals as goal

pub apply-requires : goal.apply-requires
apply-requires c = (
  c.requires.in_range,
  ending_is_score c.args.self.now.basis.sheet c.in-Some.score
      c.recall_invariant.ensures.limits c.in-Some.ensures.within,
)
