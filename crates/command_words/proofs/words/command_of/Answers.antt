use Rattle.std.proofs.Common.{◌∙◌, sym}
use Rattle.command_words.proofs.CommandLemmas.{command_of-taken}
use Rattle.command_words.proofs.words.command_of.Goals as goal

pub returns-in-Some-clause-value : goal.returns-in-Some-clause-value
returns-in-Some-clause-value c =
    c.command_in.ensures.value
    ∙ sym (command_of-taken _ _ (rw c.in-Some.is at c.in_ok-matches.ensures))

pub returns-in-None-clause-value : goal.returns-in-None-clause-value
returns-in-None-clause-value c =
    sym (command_of-taken _ _ (rw c.in-None.is at c.in_ok-matches.ensures))
