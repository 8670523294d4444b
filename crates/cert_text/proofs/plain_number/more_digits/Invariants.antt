use Rattle.std.proofs.Common.{◌≡◌, ◌<◌, ◌++◌, length, decimal}
use Rattle.cert_text.proofs.plain_number.more_digits.Given as goal

-- the digits so far and the rest
abbrev pub invariant-digits : goal.invariant-digits
invariant-digits l =
    (l.number < 10000) × (decimal l.fn.first ++ l.fn.text ≡ decimal l.number ++ l.rest)

-- what is left of the text
abbrev pub decreases-digits : goal.decreases-digits
decreases-digits l = length l.rest
