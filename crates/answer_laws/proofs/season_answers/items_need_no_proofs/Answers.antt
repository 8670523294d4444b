use Rattle.answer_laws.proofs.AnswerLemmas.{item_without}
use Rattle.answer_laws.proofs.season_answers.items_need_no_proofs.Goals as goal

pub returns : goal.returns
returns c = item_without
