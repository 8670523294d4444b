-- If the match counts the table takes it, and not if it does not.
use Rattle.league_core.specs.game.Sums.{worth_to}
use Rattle.check_bounds.specs.inside.Terms.{worth_by}
use Rattle.check_bounds.proofs.TableLemmas.{adds_when, adds_unless}
use Rattle.check_bounds.proofs.sums.add_if.Goals as goal

pub returns-then-counts : goal.returns-then-counts
returns-then-counts c =
    adds_when c.args.counts (λ club. worth_to (worth_by c.args.kind) club c.args.fixture)
    c.args.corners.now c.args.table.now c.add_match.new.table c.if-counts.true c.add_match.ensures

pub returns-else-counts : goal.returns-else-counts
returns-else-counts c =
    adds_unless c.args.counts (λ club. worth_to (worth_by c.args.kind) club c.args.fixture)
    c.args.corners.now c.args.table.now c.if-counts.false
