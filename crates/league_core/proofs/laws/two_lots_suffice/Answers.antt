use Rattle.league_core.proofs.LotsLemmas.{favoured_is_best, holds_at-favoured}
use Rattle.league_core.proofs.LotsLemmas.{lots_for_claim-are_lots, lots_for_claim-favoured}
use Rattle.league_core.proofs.LotsLemmas.{best_place_of-le, place_of-worst}
use Rattle.league_core.proofs.laws.two_lots_suffice.Goals as goal

pub returns-clause-sides : goal.returns-clause-sides
returns-clause-sides c sheet finish claim club line lots best =
    favoured_is_best sheet finish claim lots best club line

pub returns-clause-questions : goal.returns-clause-questions
returns-clause-questions c = holds_at-favoured

pub returns-clause-lots : goal.returns-clause-lots
returns-clause-lots c = lots_for_claim-are_lots

pub returns-clause-favoured : goal.returns-clause-favoured
returns-clause-favoured c = lots_for_claim-favoured

pub returns-clause-best : goal.returns-clause-best
returns-clause-best c = best_place_of-le

pub returns-clause-worst : goal.returns-clause-worst
returns-clause-worst c = place_of-worst
