use Rattle.std.proofs.Common.{sym, ◌∙◌}
use Rattle.cert_text.proofs.ReadLemmas.{json_of-utf8, json_of-none}
use Rattle.cup_text.proofs.reader.json_in.Goals as goal

pub returns-in-Ok : goal.returns-in-Ok
returns-in-Ok c =
    let ok = c.in-Ok.ensures.ok in
    sym (json_of-utf8 c.args.text.now ok.0 ∙ ok.1)

pub returns-in_default : goal.returns-in_default
returns-in_default c =
    sym (json_of-none c.args.text.now
    (c.in-Err.ensures.err
    (λ memory. c.in_default.not-Memory (c.classify.ensures.memory.1 memory))))
