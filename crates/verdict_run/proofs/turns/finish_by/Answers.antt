use Rattle.std.proofs.Common.{sym, ◌∙◌, subst}
use Rattle.branch_pool.specs.inside.States.{PoolView}
use Rattle.verdict_run.specs.inside.Working.{WorksTo, no_turn, one_turn_more}
use Rattle.verdict_run.proofs.WorkLemmas.{turn_less, turn_same, works_same}
use Rattle.verdict_run.proofs.ShownLemmas.{turns_end}
use Rattle.verdict_run.proofs.turns.finish_by.Goals as goal

pub loop-pool-init : goal.loop-pool-init
loop-pool-init g c = record {
  work = no_turn c.args.pool.now;
  sheet = c.requires.sheet;
  season = c.requires.season;
}

pub loop-pool-smaller : goal.loop-pool-smaller
loop-pool-smaller g c = turn_less c.loop-pool.pool c.work_next.new.self c.in-Worked.ensures.turn

pub loop-pool-preserved : goal.loop-pool-preserved
loop-pool-preserved g c =
    let before = c.loop-pool.invariant in
    let turn = c.in-Worked.ensures.turn in
    let same = turn_same c.loop-pool.pool c.work_next.new.self turn in
    record {
      work = one_turn_more c.args.pool.now c.loop-pool.pool c.work_next.new.self before.work turn;
      sheet = c.in-Worked.ensures.same_sheet ∙ before.sheet ∙ sym same.sheet;
      season = c.in-Worked.ensures.same_season ∙ before.season ∙ sym same.season;
    }

pub returns-in-Nothing : goal.returns-in-Nothing
returns-in-Nothing g c =
    let work = c.loop-pool.invariant.work in
    let step = c.in-Nothing.ensures.turn in
    let end = turns_end c.args.pool.now c.loop-pool.pool c.work_next.new.self work step.1
    c.requires.home step.0 c.recall_invariant.ensures.sound in
    let P : PoolView → Type 0 = λ pool. WorksTo c.args.pool.now pool in
    let whole = subst P (sym step.1) work in
    record {
      work = whole;
      same = works_same c.args.pool.now c.work_next.new.self whole;
      home = end.home;
      settled = end.settled;
      enough = end.enough;
    }
