use Rattle.answer_laws.proofs.AnswerLemmas.{season_answered}
use Rattle.answer_laws.proofs.season_answers.each_season_has_an_answer.Goals as goal

pub returns : goal.returns
returns c = season_answered
