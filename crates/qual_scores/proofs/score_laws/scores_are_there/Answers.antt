use Rattle.qual_scores.proofs.ScoreLemmas.{possible_there, guaranteed_there, halving_is_by_score}
use Rattle.qual_scores.proofs.score_laws.scores_are_there.Goals as goal

pub returns-clause-possible : goal.returns-clause-possible
returns-clause-possible c = possible_there

pub returns-clause-guaranteed : goal.returns-clause-guaranteed
returns-clause-guaranteed c = guaranteed_there

pub returns-clause-halving : goal.returns-clause-halving
returns-clause-halving c = halving_is_by_score
