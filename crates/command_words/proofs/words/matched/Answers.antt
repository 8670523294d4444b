use Rattle.std.proofs.Common.{◌≡◌, ◌∙◌, false, true}
use Rattle.command_words.proofs.CommandLemmas.{parsed-rows, refused-rows}
use Rattle.command_words.proofs.words.matched.Goals as goal

pub returns-in-Ok : goal.returns-in-Ok
returns-in-Ok c =
    parsed-rows _ _ _ c.in_ok-app.ensures c.in-Ok.ensures.matches c.in-Ok.ensures.kinds

pub returns : goal.returns
returns c =
    refused-rows _ _ c.in-Err.error c.in_ok-app.ensures
    (λ memory. let bad : false ≡ true = rw (c.kind.ensures ∙ memory) at c.if-eq.ensures in cc)
    c.in-Err.ensures.kinds
