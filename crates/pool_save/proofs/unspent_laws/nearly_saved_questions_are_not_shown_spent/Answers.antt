use Rattle.pool_save.proofs.SpentLineLemmas.{known_word_unspent, known_item_unspent}
use Rattle.pool_save.proofs.SpentLineLemmas.{shown_lines_unspent}
use Rattle.pool_save.proofs.UnspentLemmas.{verdicts_unspent}
use Rattle.pool_save.proofs.unspent_laws.nearly_saved_questions_are_not_shown_spent.Goals as goal

pub returns-clause-verdicts : goal.returns-clause-verdicts
returns-clause-verdicts c = verdicts_unspent

pub returns-clause-words : goal.returns-clause-words
returns-clause-words c = known_word_unspent

pub returns-clause-items : goal.returns-clause-items
returns-clause-items c = known_item_unspent

pub returns-clause-shown : goal.returns-clause-shown
returns-clause-shown c = shown_lines_unspent
