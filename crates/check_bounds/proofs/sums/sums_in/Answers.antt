use Rattle.std.proofs.Common.{get_or, [], ◌*◌, ◌∙◌, arith}
use Rattle.std.proofs.lemmas.List.{get_or_default}
use Rattle.league_core.specs.game.ClubSets.{clubs_in}
use Rattle.check_bounds.specs.inside.Terms.{worth_by}
use Rattle.check_bounds.specs.inside.Tables.{worth_if}
use Rattle.check_bounds.specs.inside.Walks.{worth_near}
use Rattle.check_bounds.specs.inside.IntRanges.{range_at}
use Rattle.check_bounds.proofs.IntRangeLemmas.{near_wider}
use Rattle.check_bounds.proofs.TableLemmas.{table_none, adds_more}
use Rattle.check_bounds.proofs.sums.sums_in.Goals as goal

pub loop-i-init : goal.loop-i-init
loop-i-init c =
    table_none (worth_near (clubs_in c.args.group) (worth_by c.args.kind)) c.args.fixtures.now
    c.args.corners.now

pub loop-i-preserved : goal.loop-i-preserved
loop-i-preserved c =
    adds_more (worth_near (clubs_in c.args.group) (worth_by c.args.kind)) (worth_by c.args.kind)
    c.args.fixtures.now c.args.corners.now c.loop-i.i c.loop-i.table c.add_if.new.table
    (record { home = 0; away = 0 }) c.has_one-counts.result c.index-corners-i.result (omega arith)
    (omega (arith, c.requires.many))
    (c.index-corners-i.is ∙ get_or_default c.args.corners.now c.loop-i.i _ []
    (omega (arith, c.requires.many)))
    (λ club i. worth_if (c.has_one-counts.ensures i) (worth_by c.args.kind)
    (get_or c.args.fixtures.now c.loop-i.i (record { home = 0; away = 0 })) club)
    c.loop-i.invariant c.add_if.ensures

pub returns-clause-near : goal.returns-clause-near
returns-clause-near c = λ club.
    near_wider (255 * c.loop-i.i) 153000 (range_at c.loop-i.table club)
    (omega (arith, c.requires.few)) (c.loop-i.invariant.near club)
