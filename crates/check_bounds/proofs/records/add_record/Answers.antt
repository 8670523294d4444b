-- If the match counts each table takes it, and none if it does not.
use Rattle.league_core.specs.game.Sums.{worth_to, goal_difference, goals, match_points}
use Rattle.check_bounds.proofs.TableLemmas.{adds_when, adds_unless}
use Rattle.check_bounds.proofs.records.add_record.Goals as goal

pub returns-then-counts : goal.returns-then-counts
returns-then-counts c = record {
  points =
      adds_when c.args.counts (λ club. worth_to match_points club c.args.fixture) c.args.corners.now
      c.args.records.now.points c.add_match.new.table c.if-counts.true c.add_match.ensures;
  difference =
      adds_when c.args.counts (λ club. worth_to goal_difference club c.args.fixture)
      c.args.corners.now c.args.records.now.difference c.add_match-then-counts.new.table
      c.if-counts.true c.add_match-then-counts.ensures;
  goals =
      adds_when c.args.counts (λ club. worth_to goals club c.args.fixture) c.args.corners.now
      c.args.records.now.goals c.add_match-then-counts-2.new.table
      c.if-counts.true c.add_match-then-counts-2.ensures;
}

pub returns-else-counts : goal.returns-else-counts
returns-else-counts c = record {
  points =
      adds_unless c.args.counts (λ club. worth_to match_points club c.args.fixture)
      c.args.corners.now c.args.records.now.points c.if-counts.false;
  difference =
      adds_unless c.args.counts (λ club. worth_to goal_difference club c.args.fixture)
      c.args.corners.now c.args.records.now.difference c.if-counts.false;
  goals =
      adds_unless c.args.counts (λ club. worth_to goals club c.args.fixture) c.args.corners.now
      c.args.records.now.goals c.if-counts.false;
}
