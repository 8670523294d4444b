use Rattle.std.proofs.Common.{length}
use Rattle.verdict_run.specs.inside.SeasonReports.{HasBeenReported, AsksTheSame}
use Rattle.verdict_run.proofs.reporting.report_scores.Given as goal

-- the scores of the fixtures so far are reported
abbrev pub invariant-loop-fixture : goal.invariant-loop-fixture
invariant-loop-fixture l = record {
  so_far : HasBeenReported l.season (length l.season.deductions) l.fixture l.pool;
  same : AsksTheSame l.fn.pool l.pool;
}
