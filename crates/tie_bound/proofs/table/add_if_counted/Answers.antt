use Rattle.std.proofs.Common.{sym, ◌∙◌}
use Rattle.league_core.specs.game.ClubSets.{clubs_in}
use Rattle.tie_bound.specs.inside.Sums.{sums_at}
use Rattle.tie_bound.proofs.TableLemmas.{counted_grows, uncounted_grows}
use Rattle.tie_bound.proofs.table.add_if_counted.Goals as goal

pub returns-then-counts : goal.returns-then-counts
returns-then-counts c = λ options is club.
    counted_grows (clubs_in c.args.group) c.args.fixture options club
    (sums_at c.args.table.now club) (sums_at c.add.new.table club)
    (sym c.counts.ensures ∙ c.if-counts.true) (c.add.ensures options is club)

pub returns-else-counts : goal.returns-else-counts
returns-else-counts c = λ options is club.
    uncounted_grows (clubs_in c.args.group) c.args.fixture options club
    (sums_at c.args.table.now club)
    (sym c.counts.ensures ∙ c.if-counts.false)
