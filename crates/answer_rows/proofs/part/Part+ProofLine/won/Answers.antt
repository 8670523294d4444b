use Rattle.std.proofs.Common.{sym}
use Rattle.league_core.proofs.FinishLemmas.{may_all_end-length}
use Rattle.answer_rows.proofs.PartLemmas.{won_part}
use Rattle.answer_rows.proofs.part.Part+ProofLine.won.Goals as goal

pub example_lines-requires-clause-same : goal.example_lines-requires-clause-same
example_lines-requires-clause-same c =
    sym (may_all_end-length c.args.sheet.now.goal_limit c.args.season.now.scores
    c.args.finish.now.scores c.requires.example.is_finish.scores)

pub returns-clause-part : goal.returns-clause-part
returns-clause-part c =
    won_part c.args.sheet.now c.args.season.now c.args.question.now c.args.finish.now
    c.args.lots.now c.in_ok-lines.lines c.requires.league c.requires.results c.requires.example
    c.in_ok-lines.ensures
