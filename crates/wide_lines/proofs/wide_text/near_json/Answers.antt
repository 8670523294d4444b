use Rattle.std.proofs.Common.{ap, ◌∙◌}
use Rattle.serde_json.specs.Written.{compact_text, has_float}
use Rattle.cert_text.proofs.LineLemmas.{no_float}
use Rattle.wide_lines.specs.WideTexts.{near_parts}
use Rattle.wide_lines.proofs.NearTextLemmas.{near_text}
use Rattle.wide_lines.proofs.wide_text.near_json.Goals as goal

pub returns : goal.returns
returns c =
    let is = c.in_ok-value.ensures in
    c.in_ok-to_vec.ensures.text
    (ap has_float is ∙ no_float (near_parts c.args.fresh c.args.rival))
    ∙ ap compact_text is ∙ near_text c.args.fresh c.args.rival
