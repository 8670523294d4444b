use Rattle.std.proofs.Common.{◌∙◌, [], ap, ap₂, length, refl}
use Rattle.std.proofs.lemmas.List.Elements.{All-nil}
use Rattle.league_core.specs.declared.sheet.Sheet.{Sheet}
use Rattle.league_core.specs.game.Seasons.{unplayed_season}
use Rattle.cup_sheet.specs.CupFeeds.{joint_sheet}
use Rattle.run_ends.proofs.RunRoundLemmas.{turn-starved}
use Rattle.cup_turns.specs.CupCourses.{cup_kind}
use Rattle.cup_turns.proofs.CupAnsweredLemmas.{cup-answered}
use Rattle.cup_turns.proofs.CupRoundLemmas.{unread-after}
use Rattle.cup_turns.proofs.session.run_feed.Goals as goal

pub returns-in_default-clause-serves : goal.returns-in_default-clause-serves
returns-in_default-clause-serves g c = λ input ended old path.
    let IsAnswer = g.A.CupAnswers.answers c.args.answers.now in
    turn-starved (cup_kind IsAnswer)
    (cup-answered IsAnswer (g.met.A.CupAnswers.answered c.args.answers.now)) input ended _ _ _ _ _
    _ old _ path

pub returns-in_default-clause-last : goal.returns-in_default-clause-last
returns-in_default-clause-last g c = λ first come. (c.args.reader.now, come.last)

pub returns-in_default-unplayed-clause-serves : goal.returns-in_default-unplayed-clause-serves
returns-in_default-unplayed-clause-serves g c = λ input ended old path.
    let IsAnswer = g.A.CupAnswers.answers c.args.answers.now in
    turn-starved (cup_kind IsAnswer)
    (cup-answered IsAnswer (g.met.A.CupAnswers.answered c.args.answers.now)) input ended _ _ _ _ _
    _ old _ path

pub returns-clause-serves : goal.returns-clause-serves
returns-clause-serves g c = λ input ended old path.
    let clubs = c.len.ensures ∙ ap (λ (s : Sheet). length s.clubs) c.in-Ok.ensures.value in
    let fixtures =
    c.len-2.ensures ∙ ap (λ (s : Sheet). length s.fixtures) c.in-Ok.ensures.value in
    c.run_rounds.ensures.serves input ended old (
      [],
      unread-after (joint_sheet c.args.cup.now) _
          (c.in-Ok-unplayed.ensures ∙ ap₂ unplayed_season clubs fixtures) refl (All-nil _),
      path,
    )

pub returns-clause-last : goal.returns-clause-last
returns-clause-last g c = λ first come.
    let clubs = c.len.ensures ∙ ap (λ (s : Sheet). length s.clubs) c.in-Ok.ensures.value in
    let fixtures =
    c.len-2.ensures ∙ ap (λ (s : Sheet). length s.fixtures) c.in-Ok.ensures.value in
    c.run_rounds.ensures.last first (
      [],
      unread-after (joint_sheet c.args.cup.now) _
          (c.in-Ok-unplayed.ensures ∙ ap₂ unplayed_season clubs fixtures) refl (All-nil _),
      come,
    )
