use Rattle.league_core.specs.game.Questions.{IsExample}
use Rattle.league_core.proofs.FinishLemmas.{finish_is_of}
use Rattle.what_if.proofs.HintLemmas.{found_below}
use Rattle.what_if.proofs.hints.Hints.tried.Goals as goal

pub try_example-requires-clause-league : goal.try_example-requires-clause-league
try_example-requires-clause-league c =
    let played = c.args.self.now.played.now in
    let member = c.is_member.ensures c.if-is_member.true in
    record {
      limits = c.sheet-sheet.ensures.limits;
      of_sheet = rw c.sheet-sheet.ensures.sheet
          (finish_is_of played.sheet played.season c.args.finish
          (rw c.season-season.ensures.season at c.season-season.ensures.of_sheet) member.0);
    }

pub returns-in-Some : goal.returns-in-Some
returns-in-Some c =
    let played = c.args.self.now.played.now in
    let member = c.is_member.ensures c.if-is_member.true in
    let drawn = rw c.in-Some.is at c.in_ok-lots.ensures.drawn in
    let holds = rw c.in-Some.is at c.in_ok-lots.ensures.found in
    let example : IsExample played.sheet played.season c.args.question.now c.args.finish
    c.in-Some.lots = record {
      is_finish = member.0;
      is_drawn = rw c.sheet-sheet.ensures.sheet at drawn;
      holds = rw c.sheet-sheet.ensures.sheet at holds;
    } in
    found_below played.sheet played.season played.season c.args.question.now c.args.base.now
    c.args.finish c.in-Some.lots example member
