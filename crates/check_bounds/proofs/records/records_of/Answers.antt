use Rattle.std.proofs.Common.{[], ◌∙◌, arith}
use Rattle.std.proofs.lemmas.List.{get_or_default}
use Rattle.league_core.specs.game.ClubSets.{clubs_in}
use Rattle.check_bounds.proofs.WalkLemmas.{records_none, records_more, records_all, records_near}
use Rattle.check_bounds.proofs.records.records_of.Goals as goal

pub add_record-requires-clause-near : goal.add_record-requires-clause-near
add_record-requires-clause-near c =
    records_near (clubs_in c.args.group) c.args.fixtures.now c.args.corners.now c.loop-i.i
    c.loop-i.records (omega (arith, c.requires.few)) c.loop-i.invariant

pub loop-i-init : goal.loop-i-init
loop-i-init c = records_none (clubs_in c.args.group) c.args.fixtures.now c.args.corners.now

pub loop-i-preserved : goal.loop-i-preserved
loop-i-preserved c =
    records_more (clubs_in c.args.group) c.args.fixtures.now c.args.corners.now c.loop-i.i
    c.loop-i.records c.add_record.new.records (record { home = 0; away = 0 })
    c.has_both-counts.result c.index-corners-i.result (omega arith) (omega (arith, c.requires.many))
    (c.index-corners-i.is ∙ get_or_default c.args.corners.now c.loop-i.i _ []
    (omega (arith, c.requires.many)))
    c.has_both-counts.ensures c.loop-i.invariant c.add_record.ensures

pub returns : goal.returns
returns c =
    records_all (clubs_in c.args.group) c.args.fixtures.now c.args.corners.now c.loop-i.i
    c.loop-i.records (omega arith) c.loop-i.invariant
