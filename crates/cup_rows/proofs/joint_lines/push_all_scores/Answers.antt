use Rattle.std.proofs.Common.{◌++◌, length, ap, sym, ◌∙◌, arith}
use Rattle.league_core.specs.game.Results.{Results}
use Rattle.tree_arena.specs.declared.example.Example.{Example}
use Rattle.cup_text.specs.CupItems.{group_scores_from}
use Rattle.cup_rows.proofs.JointLineLemmas.{ends_as_many, ends_alike_at, joint_room, together-next}
use Rattle.cup_rows.proofs.JointLineLemmas.{joint_scores-step, joint_all}
use Rattle.cup_rows.proofs.joint_lines.push_all_scores.Goals as goal

pub bounds-ends-group : goal.bounds-ends-group
bounds-ends-group c =
    omega (
      arith,
      c.loop-group-test.true,
      ends_as_many c.args.seasons.now c.args.ends.now c.requires.alike,
    )

pub push_group_scores-requires-clause-same : goal.push_group_scores-requires-clause-same
push_group_scores-requires-clause-same c =
    ap (λ (it : Results). length it.scores) c.as_season.ensures.season
    ∙ sym (ap (λ (it : Example). length it.finish.scores) c.index-ends-group.is)
    ∙ ends_alike_at c.args.seasons.now c.args.ends.now c.loop-group.group
    c.index-seasons-group.result c.index-ends-group.result c.requires.alike c.loop-group-test.true
    c.index-seasons-group.is c.index-ends-group.is

pub push_group_scores-requires-clause-few : goal.push_group_scores-requires-clause-few
push_group_scores-requires-clause-few c =
    joint_room c.args.seasons.now c.loop-group.group c.index-seasons-group.result
    c.loop-group.first c.loop-group-test.true c.index-seasons-group.is c.loop-group.invariant.0
    c.requires.few

pub overflow_cast-first : goal.overflow_cast-first
overflow_cast-first c =
    omega (
      arith,
      ap length c.scores.ensures.scores,
      joint_room c.args.seasons.now c.loop-group.group c.index-seasons-group.result
          c.loop-group.first c.loop-group-test.true c.index-seasons-group.is
          c.loop-group.invariant.0 c.requires.few,
    )

pub overflow_add-first : goal.overflow_add-first
overflow_add-first c =
    omega (
      arith,
      ap length c.scores.ensures.scores,
      joint_room c.args.seasons.now c.loop-group.group c.index-seasons-group.result
          c.loop-group.first c.loop-group-test.true c.index-seasons-group.is
          c.loop-group.invariant.0 c.requires.few,
    )

pub loop-group-preserved : goal.loop-group-preserved
loop-group-preserved c =
    let seasons = c.args.seasons.now in
    let ends = c.args.ends.now in
    let season = c.index-seasons-group.result in
    let end = c.index-ends-group.result in (
      omega (
        arith,
        ap length c.scores.ensures.scores,
        c.loop-group.invariant.0,
        together-next seasons c.loop-group.group season c.loop-group-test.true
            c.index-seasons-group.is,
      ),
      joint_scores-step _ _ _ c.loop-group.first seasons ends c.loop-group.group season end
          c.loop-group-test.true (ends_as_many seasons ends c.requires.alike)
          c.index-seasons-group.is c.index-ends-group.is c.loop-group.invariant.0
          c.loop-group.invariant.1
          ((rw c.as_season.ensures.season at c.in_ok-push_group_scores.ensures)
          ∙ ap (λ (it : Example). c.loop-group.lines.items
          ++ group_scores_from c.loop-group.first season.scores it.finish.scores)
          (sym c.index-ends-group.is)),
    )

pub returns : goal.returns
returns c =
    let seasons = c.args.seasons.now in
    let ends = c.args.ends.now in
    joint_all _ _ seasons ends c.loop-group.group (ends_as_many seasons ends c.requires.alike)
    (omega (arith, c.loop-group-test.false)) c.loop-group.invariant.1
