use Rattle.runners_up.proofs.JointShownLemmas.{ends_show}
use Rattle.runners_up.proofs.laws.joint_ends_show.Goals as goal

pub returns : goal.returns
returns c = ends_show
