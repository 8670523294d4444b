use Rattle.verdict_run.specs.inside.SeasonReports.{HasBeenReported, AsksTheSame}
use Rattle.verdict_run.proofs.reporting.report_deductions.Given as goal

-- the deductions of the clubs so far are reported
abbrev pub invariant-loop-club : goal.invariant-loop-club
invariant-loop-club l = record {
  so_far : HasBeenReported l.season l.club 0 l.pool;
  same : AsksTheSame l.fn.pool l.pool;
}
