use Rattle.std.proofs.Common.{arith}
use Rattle.std.proofs.lemmas.Int.Digits.{digits_value_more}
use Rattle.fixture_sheet.proofs.TextLemmas.{digits_value-take-lt, digit_value-at}
use Rattle.fixture_sheet.proofs.number.value_of.Goals as goal

pub overflow_mul-value : goal.overflow_mul-value
overflow_mul-value c =
    let few = digits_value-take-lt c.args.text.now c.loop-byte.byte-index c.requires
    (omega arith) in
    omega (arith, few, c.loop-byte.invariant)

pub overflow_add-value : goal.overflow_add-value
overflow_add-value c =
    let few = digits_value-take-lt c.args.text.now c.loop-byte.byte-index c.requires
    (omega arith) in
    omega (arith, few, c.loop-byte.invariant, c.type_inv.text c.loop-byte.byte-index)

pub loop-byte-preserved : goal.loop-byte-preserved
loop-byte-preserved c =
    let more = digits_value_more 10 c.args.text.now c.loop-byte.byte-index (omega arith) in
    let digit = digit_value-at c.args.text.now c.loop-byte.byte-index c.requires (omega arith) in
    omega (arith, more, digit, c.loop-byte.invariant)
