use Rattle.std.proofs.Common.{◌≤◌, Some, ap, ◌∙◌, sym, subst}
use Rattle.serde_json.specs.Data.{depth}
use Rattle.serde_json.specs.Read.{max_depth}
use Rattle.serde_json.specs.Written.{compact_text, has_float}
use Rattle.cert_text.proofs.ReadLemmas.{json_of-utf8}
use Rattle.cup_text.specs.CupLines.{cup_parts_of, cup_key_of}
use Rattle.cup_text.proofs.CupTextLemmas.{cup_text, cup_no_float, cup_shallow}
use Rattle.cup_text.proofs.text.json_text.Goals as goal

pub returns-clause-text : goal.returns-clause-text
returns-clause-text c =
    let x = c.args.line.now in
    let is = c.in_ok-value.ensures in
    c.in_ok-to_vec.ensures.text
    (ap has_float is ∙ cup_no_float (cup_parts_of x) (cup_key_of x))
    ∙ ap compact_text is ∙ cup_text x

pub returns-clause-json : goal.returns-clause-json
returns-clause-json c =
    let x = c.args.line.now in
    let is = c.in_ok-value.ensures in
    json_of-utf8 _ c.in_ok-to_vec.ensures.utf8
    ∙ c.in_ok-to_vec.ensures.reads_back
    (subst (λ shown. depth shown ≤ max_depth) (sym is)
    (cup_shallow (cup_parts_of x) (cup_key_of x)))
    ∙ ap Some is
