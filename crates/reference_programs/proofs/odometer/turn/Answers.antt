use Rattle.std.proofs.Common.{get_or, is_some, Some, None, sym, ap, ◌∙◌, arith}
use Rattle.league_core.specs.game.Finishes.{may_end}
use Rattle.league_core.proofs.FinishLemmas.{may_all_end-length, may_end-at}
use Rattle.reference_programs.proofs.StepLemmas.{is_none, is_score_within, turns-played}
use Rattle.reference_programs.proofs.StepLemmas.{finish_with}
use Rattle.reference_programs.proofs.StepLemmas.{turns-open}
use Rattle.reference_programs.proofs.odometer.turn.Goals as goal

pub returns-then-is_some-clause-number : goal.returns-then-is_some-clause-number
returns-then-is_some-clause-number c =
    turns-played c.args.sheet.now c.args.season.now c.args.finish.now c.args.fixture
    c.requires.in_range
    (ap is_some (sym c.score.ensures.score) ∙ sym c.is_some.ensures ∙ c.if-is_some.true)

pub score-requires-2 : goal.score-requires-2
score-requires-2 c =
    let as_many = may_all_end-length c.args.sheet.now.goal_limit c.args.season.now.scores
    c.args.finish.now.scores c.requires.is_finish.scores in
    omega (arith, as_many, c.requires.in_range)

pub next_mark-mark-requires-clause-may : goal.next_mark-mark-requires-clause-may
next_mark-mark-requires-clause-may c =
    let limit = c.args.sheet.now.goal_limit in
    let season = c.args.season.now.scores in
    let finish = c.args.finish.now.scores in
    let unplayed = is_none (get_or season c.args.fixture None)
    (ap is_some (sym c.score.ensures.score) ∙ sym c.is_some.ensures ∙ c.if-is_some.false) in
    ap (may_end limit None) c.score-2.ensures.score
    ∙ ap (λ o. may_end limit o (get_or finish c.args.fixture None)) (sym unplayed)
    ∙ may_end-at limit season finish c.requires.is_finish.scores c.args.fixture c.requires.in_range

pub apply-requires : goal.apply-requires
apply-requires c =
    let as_many = may_all_end-length c.args.sheet.now.goal_limit c.args.season.now.scores
    c.args.finish.now.scores c.requires.is_finish.scores in (
      omega (arith, as_many, c.requires.in_range),
      is_score_within c.args.sheet.now.goal_limit c.next_mark-mark.result.score
          c.requires.limits.most_goal_limit c.next_mark-mark.ensures.may,
    )

pub returns-clause-is_finish : goal.returns-clause-is_finish
returns-clause-is_finish c =
    let unplayed = is_none (get_or c.args.season.now.scores c.args.fixture None)
    (ap is_some (sym c.score.ensures.score) ∙ sym c.is_some.ensures ∙ c.if-is_some.false) in
    finish_with c.args.sheet.now c.args.season.now c.args.finish.now c.apply.new.self
    c.args.fixture (Some c.next_mark-mark.result.score) c.requires.is_finish unplayed
    c.next_mark-mark.ensures.may c.apply.ensures

pub returns-clause-number : goal.returns-clause-number
returns-clause-number c =
    let unplayed = is_none (get_or c.args.season.now.scores c.args.fixture None)
    (ap is_some (sym c.score.ensures.score) ∙ sym c.is_some.ensures ∙ c.if-is_some.false) in
    turns-open c.args.sheet.now c.args.season.now c.args.finish.now c.apply.new.self
    c.args.fixture c.score-2.result (Some c.next_mark-mark.result.score)
    c.next_mark-mark.result.is_round c.requires.is_finish c.requires.in_range unplayed
    c.score-2.ensures.score c.next_mark-mark.ensures.number c.apply.ensures
