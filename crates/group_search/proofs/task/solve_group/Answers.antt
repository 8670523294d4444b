use Rattle.cup_groups.specs.inside.KindQuestions.{group_question_of}
use Rattle.group_search.proofs.GroupLookLemmas.{group_look_at_root}
use Rattle.group_search.proofs.task.solve_group.Goals as goal

pub work-requires : goal.work-requires
work-requires c =
    rw (c.in_ok-over.ensures, c.in_ok-played.ensures) (record {
      root = group_look_at_root (record {
        sheet = c.args.sheet.now;
        season = c.args.season.now;
        question = group_question_of c.args.question.now;
      }) c.requires.league c.scores-scores.ensures.within c.requires.in_range;
    })
