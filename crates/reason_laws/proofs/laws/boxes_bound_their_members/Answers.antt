use Rattle.reason_laws.proofs.MemberLemmas.{member_in_box, points_in_box}
use Rattle.reason_laws.proofs.laws.boxes_bound_their_members.Goals as goal

pub returns-clause-members : goal.returns-clause-members
returns-clause-members c = member_in_box

pub returns-clause-points : goal.returns-clause-points
returns-clause-points c = points_in_box
