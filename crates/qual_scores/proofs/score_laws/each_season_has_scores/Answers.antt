use Rattle.qual_scores.proofs.SeasonScoreLemmas.{scores_there}
use Rattle.qual_scores.proofs.score_laws.each_season_has_scores.Goals as goal

pub returns : goal.returns
returns c = scores_there
