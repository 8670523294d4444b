use Rattle.std.proofs.Common.{◌≡◌, ◌<◌, ◌≤◌, ◌∙◌, Some, None, Option, length, ap, arith}
use Rattle.std.proofs.Common.{slice_index_or}
use Rattle.std.specs.Prelude.{slice_set}
use Rattle.league_core.specs.declared.season.Score.{Score}
use Rattle.league_core.specs.game.Results.{Results}
use Rattle.league_core.proofs.FinishLemmas.{ended_of}
use Rattle.runners_up.proofs.GoallessLemmas.{ended_to, ended_to-next, ended_to-all, some_ended}
use Rattle.runners_up.proofs.any_end.end_goalless.Goals as goal

pub loop-fixture-preserved : goal.loop-fixture-preserved
loop-fixture-preserved c =
    let season = c.args.season.now in
    let k = c.loop-fixture.fixture in
    let below : k < length season.scores =
    omega (arith, c.loop-fixture-test.true, ap length c.scores.ensures.scores) in
    let none : Score = record { home = 0; away = 0 } in
    let score : Some c.unwrap_or-score.result ≡ ended_of (slice_index_or season.scores k None) =
    ap (λ (it : Score). Some it) c.unwrap_or-score.ensures ∙ some_ended c.score.result
    ∙ ap ended_of c.score.ensures.score in
    ended_to-next season c.apply.new.self k below
    (c.apply.ensures
    ∙ ap (λ (it : Results). record it {
      scores = slice_set it.scores k (Some c.unwrap_or-score.result);
    }) c.loop-fixture.invariant
    ∙ ap (λ (it : Option Score). record (ended_to k season) {
      scores = slice_set (ended_to k season).scores k it;
    }) score)

pub returns : goal.returns
returns c = λ sheet.
    let all : length c.args.season.now.scores ≤ c.loop-fixture.fixture =
    omega (arith, c.loop-fixture-test.false, ap length c.scores.ensures.scores) in
    ended_to-all sheet c.args.season.now c.loop-fixture.ended c.loop-fixture.fixture all
    c.loop-fixture.invariant
