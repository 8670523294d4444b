use Rattle.runners_up.proofs.SideLawLemmas.{sides_are_open}
use Rattle.runners_up.proofs.laws.open_groups_leave_sides_open.Goals as goal

pub returns : goal.returns
returns c = sides_are_open
