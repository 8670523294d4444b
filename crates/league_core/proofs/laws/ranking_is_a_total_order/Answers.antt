use Rattle.std.proofs.Common.{sym, ◌∙◌}
use Rattle.std.proofs.lemmas.Bool.{false≢true}
use Rattle.league_core.proofs.PlaceLemmas.{place_of-before, place_of-le}
use Rattle.league_core.proofs.RankingLemmas.{order_of_total, ranks_before-one, ranks_before-both}
use Rattle.league_core.proofs.RankingLemmas.{ranks_before-itself}
use Rattle.league_core.proofs.laws.ranking_is_a_total_order.Goals as goal

pub returns-clause-total : goal.returns-clause-total
returns-clause-total c = order_of_total

pub returns-clause-one : goal.returns-clause-one
returns-clause-one c = ranks_before-one

pub returns-clause-both : goal.returns-clause-both
returns-clause-both c = ranks_before-both

pub returns-clause-itself : goal.returns-clause-itself
returns-clause-itself c sheet season lots club before =
    false≢true (sym (ranks_before-itself sheet season lots club) ∙ before)

pub returns-clause-places : goal.returns-clause-places
returns-clause-places c = place_of-before

pub returns-clause-last : goal.returns-clause-last
returns-clause-last c = place_of-le
