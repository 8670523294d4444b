use Rattle.std.proofs.Common.{◌+◌, refl, ◌∙◌}
use Rattle.cert_text.proofs.plain_number.digits.Goals as goal
use Rattle.league_core.proofs.plain.Texts.{digits_one}

pub returns : goal.returns
returns c = (
  c.more_digits.ensures.few,
  digits_one c.in_ok-number.number (48 + c.in_ok-number.number) c.args.text.now
      c.in_ok-number.rest.now c.in_ok-number.ensures.0 refl c.in_ok-number.ensures.1
      ∙ c.more_digits.ensures.digits,
)
