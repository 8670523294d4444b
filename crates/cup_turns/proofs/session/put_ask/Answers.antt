use Rattle.std.proofs.Common.{◌∙◌, Option, subst, sym}
use Rattle.league_core.specs.declared.sheet.Sheet.{Sheet}
use Rattle.cup_sheet.specs.CupFeeds.{joint_sheet}
use Rattle.run_ends.specs.declared.status.Status.{Status}
use Rattle.cup_turns.specs.CupCourses.{cup_played}
use Rattle.cup_turns.specs.inside.CupRounds.{WasRead}
use Rattle.cup_turns.specs.inside.CupTurns.{CountsCupAsk, CupAskGives}
use Rattle.cup_turns.proofs.CupRoundLemmas.{asked-played, asked-results, put-counts, put-gives}
use Rattle.cup_turns.proofs.CupRoundLemmas.{read-of_sheet}
use Rattle.cup_turns.proofs.session.put_ask.Goals as goal

pub seasons_of-requires-clause-of_sheet : goal.seasons_of-requires-clause-of_sheet
seasons_of-requires-clause-of_sheet g c =
    let P : Sheet → Type 0 = λ s. WasRead s c.args.so_far.now in
    read-of_sheet (joint_sheet c.args.run.now.cup.now) c.args.so_far.now
    (subst P c.requires.of_cup c.requires.read)

pub put-put-requires-clause-results : goal.put-put-requires-clause-results
put-put-requires-clause-results g c =
    let P : Sheet → Type 0 = λ s. WasRead s c.args.so_far.now in
    asked-results c.args.run.now.cup.now c.args.so_far.now c.as_slice.result.now
    (subst P c.requires.of_cup c.requires.read) (c.as_slice.ensures ∙ c.in-Ok.ensures.value)

pub returns-clause-answer : goal.returns-clause-answer
returns-clause-answer g c = λ log stands.
    let IsAnswer = g.A.CupAnswers.answers c.args.run.now.answers.now in
    let P : Option Status → Type 0 =
    λ turn. CupAskGives (IsAnswer (cup_played c.args.run.now.cup.now log))
    (g.K.Sink.holds c.args.sink.now) (g.K.Sink.holds c.put-put.new.sink) turn in
    subst P (sym c.turn_of.ensures)
    (put-gives IsAnswer _ (cup_played c.args.run.now.cup.now log) _ _ c.put-put.result
    (asked-played c.args.run.now.cup.now log c.args.so_far.now c.as_slice.result.now stands
    (c.as_slice.ensures ∙ c.in-Ok.ensures.value))
    c.put-put.ensures.text)

pub returns-clause-counts : goal.returns-clause-counts
returns-clause-counts g c =
    let P : Option Status → Type 0 =
    λ turn. CountsCupAsk (g.K.Sink.faults c.args.sink.now) (g.K.Sink.faults c.put-put.new.sink)
    turn in
    subst P (sym c.turn_of.ensures)
    (put-counts _ _ c.put-put.result c.put-put.ensures.counts)
