use Rattle.cup_feed.proofs.FeedLawLemmas.{seasons_each, results_each}
use Rattle.cup_feed.proofs.laws.feeds_give_seasons.Goals as goal

pub returns-clause-seasons : goal.returns-clause-seasons
returns-clause-seasons c = seasons_each

pub returns-clause-results : goal.returns-clause-results
returns-clause-results c = results_each
