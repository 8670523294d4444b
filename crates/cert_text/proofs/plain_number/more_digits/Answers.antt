use Rattle.std.proofs.Common.{◌+◌, refl, ◌∙◌, arith}
use Rattle.cert_text.proofs.plain_number.more_digits.Goals as goal
use Rattle.league_core.proofs.plain.Texts.{digits_more}

pub digits-preserved : goal.digits-preserved
digits-preserved c =
    let told = c.in-Some.ensures in (
      omega (arith, told.0),
      c.digits.invariant.1
          ∙ digits_more c.digits.number c.in-Some.next (48 + c.in-Some.next) c.digits.rest.now
          c.in-Some.more.now (omega arith) (omega arith) told.0 refl told.1,
    )
