use Rattle.pool_save.proofs.SavedBytesLemmas.{written_text_is_read}
use Rattle.pool_save.proofs.laws.written_texts_are_read_back.Goals as goal

pub returns : goal.returns
returns c = written_text_is_read
