use Rattle.std.proofs.Common.{sym, subst}
use Rattle.cup_rows.specs.inside.JointLines.{AreEndsAlike}
use Rattle.cup_rows.proofs.JointLineLemmas.{finishes_alike, few_cup_scores}
use Rattle.cup_rows.proofs.joint_lines.push_joint.Goals as goal

pub push_all_scores-requires-clause-alike : goal.push_all_scores-requires-clause-alike
push_all_scores-requires-clause-alike c =
    subst (λ ends. AreEndsAlike c.args.seasons.now ends) (sym c.as_slice.ensures)
    (finishes_alike c.args.cup.now.groups c.args.seasons.now c.args.joint.now.ends
    c.requires.ends)

pub push_all_scores-requires-clause-few : goal.push_all_scores-requires-clause-few
push_all_scores-requires-clause-few c =
    few_cup_scores c.args.cup.now c.args.seasons.now c.requires.cup c.requires.seasons
