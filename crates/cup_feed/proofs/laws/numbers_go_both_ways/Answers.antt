use Rattle.cup_feed.proofs.FeedLawLemmas.{from_group, from_cup}
use Rattle.cup_feed.proofs.laws.numbers_go_both_ways.Goals as goal

pub returns-clause-from_group : goal.returns-clause-from_group
returns-clause-from_group c = from_group

pub returns-clause-from_cup : goal.returns-clause-from_cup
returns-clause-from_cup c = from_cup
