use Rattle.std.proofs.Common.{[], refl, true, ◌∙◌, arith}
use Rattle.std.proofs.lemmas.List.{get_or_default}
use Rattle.league_core.specs.game.Sums.{worth_to}
use Rattle.check_bounds.specs.inside.Terms.{worth_by}
use Rattle.check_bounds.proofs.TableLemmas.{table_none, adds_more}
use Rattle.check_bounds.proofs.table.sums_of.Goals as goal

pub loop-i-init : goal.loop-i-init
loop-i-init c =
    table_none (worth_to (worth_by c.args.kind)) c.args.fixtures.now c.args.corners.now

pub loop-i-preserved : goal.loop-i-preserved
loop-i-preserved c =
    adds_more (worth_to (worth_by c.args.kind)) (worth_by c.args.kind) c.args.fixtures.now
    c.args.corners.now c.loop-i.i c.loop-i.table c.add_match.new.table
    (record { home = 0; away = 0 }) true c.index-corners-i.result (omega arith)
    (omega (arith, c.requires.many))
    (c.index-corners-i.is ∙ get_or_default c.args.corners.now c.loop-i.i _ []
    (omega (arith, c.requires.many)))
    (λ club. refl) c.loop-i.invariant c.add_match.ensures
