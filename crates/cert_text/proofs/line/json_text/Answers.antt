use Rattle.std.proofs.Common.{ap, ◌∙◌}
use Rattle.serde_json.specs.Written.{compact_text, has_float}
use Rattle.cert_text.specs.Lines.{parts_of}
use Rattle.cert_text.proofs.LineLemmas.{line_text, no_float}
use Rattle.cert_text.proofs.line.json_text.Goals as goal

pub returns-clause-text : goal.returns-clause-text
returns-clause-text c =
    let is = c.in_ok-value.ensures.value in
    c.in_ok-to_vec.ensures.text (ap has_float is ∙ no_float (parts_of c.args.line.now))
    ∙ ap compact_text is
    ∙ line_text c.args.line.now
