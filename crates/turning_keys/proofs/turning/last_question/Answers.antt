use Rattle.club_keys.specs.inside.KeyEnds.{key_parts}
use Rattle.turning_keys.proofs.ReachedLemmas.{none_before}
use Rattle.turning_keys.proofs.turning.last_question.Goals as goal

pub unreachable-requires : goal.unreachable-requires
unreachable-requires c =
    let found = rw c.in-Won.is at c.in_ok-solve_group.ensures in
    none_before c.args.sheet.now c.args.season.now c.args.sought.club c.args.sought.claim
    (key_parts c.args.key) c.in-Won.field-0 c.requires.turning
    (rw c.nearer-question.ensures.question at found)
