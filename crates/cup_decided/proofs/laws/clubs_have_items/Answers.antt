use Rattle.cup_decided.proofs.ClubItemLemmas.{club_has_item}
use Rattle.cup_decided.proofs.laws.clubs_have_items.Goals as goal

pub returns : goal.returns
returns c = club_has_item
