use Rattle.std.proofs.Common.{ℕ, Bool, Option, Some, None, ◌∙◌, ap, sym, if◌then◌else◌}
use Rattle.std.specs.Str.Parse.{digits_value}
use Rattle.command_words.specs.Commands.{is_numeral}
use Rattle.command_words.proofs.CommandLemmas.{past-range}
use Rattle.command_words.proofs.words.numeral_within.Goals as goal

pub returns-in-Err-clause-value : goal.returns-in-Err-clause-value
returns-in-Err-clause-value c =
    let test = past-range c.args.text.now c.in-Err.field-0 c.args.least c.args.most
    c.in-Err.ensures.value.0
    (ap is_numeral (sym c.as_bytes.ensures.value) ∙ sym c.if-not-is_numeral.ensures)
    c.ranges.most.fits in
    let value : Bool → Option ℕ =
    λ test. if test then Some (digits_value 10 c.args.text.now) else None in
    ap value test
