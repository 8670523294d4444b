use Rattle.std.proofs.Common.{◌≡◌, ◌-◌}
use Rattle.port_core.specs.Contents.{input_limit}
use Rattle.branch_pool.specs.inside.States.{out_count}
use Rattle.result_log.specs.inside.Readings.{live_as}
use Rattle.plain_rounds.specs.inside.Feeding.{HasComeOn}
use Rattle.plain_rounds.specs.inside.Reports.{ReportsTo}
use Rattle.plain_rounds.proofs.parsed_round.feed_parsed.Given as goal

-- the lines so far told the events that the log has more than before
abbrev pub invariant-records : goal.invariant-records
invariant-records g l = record {
  sheet : l.pool.sheet ≡ l.fn.pool.sheet;
  questions : l.pool.questions ≡ l.fn.pool.questions;
  home : out_count l.pool.loans ≡ out_count l.fn.pool.loans;
  reported : ReportsTo l.fn.pool l.pool;
  come : HasComeOn g.S.Source.left g.S.Source.ended g.S.Source.faults g.S.Source.reads
      (live_as g.R.Reading.entry (g.R.Reading.tells l.reading) l.fn.pool.sheet) l.fn.pool.log
      l.pool.log l.fn.reader l.reader l.fn.source l.source;
}

-- the bytes that may still be passed
abbrev pub decreases-records : goal.decreases-records
decreases-records g l = input_limit - l.reader.position.bytes
