use Rattle.cup_answers.proofs.UnprovedItemLemmas.{cup_item_without}
use Rattle.cup_answers.proofs.laws.items_of_cups_need_no_proofs.Goals as goal

pub returns : goal.returns
returns c = cup_item_without
