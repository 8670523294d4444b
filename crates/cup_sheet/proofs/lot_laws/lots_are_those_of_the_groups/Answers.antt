use Rattle.cup_sheet.proofs.JoinedLotsLemmas.{joined_agree}
use Rattle.cup_sheet.proofs.WithinLotsLemmas.{restricted_drawn}
use Rattle.cup_sheet.proofs.lot_laws.lots_are_those_of_the_groups.Goals as goal

pub returns : goal.returns
returns c = record { joined = joined_agree; restricted = restricted_drawn }
