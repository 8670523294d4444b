-- What one comparison after another says, whatever is compared.
use Rattle.std.proofs.Common.{◌≡◌, Equal, Greater, ℤ, ◌<ℤ◌, arith}
use Rattle.std.proofs.lemmas.Int.{ints}
use Rattle.league_core.specs.game.HeadToHead.{greater_first}

-- of two numbers the greater one comes first, and equal ones are level
pub greater_first-greater : (number other : ℤ) → number <ℤ other
    → greater_first number other ≡ Greater
greater_first-greater number other h = grind (arith, ints)

pub greater_first-same : (number other : ℤ) → number ≡ other → greater_first number other ≡ Equal
greater_first-same number other h = grind (arith, ints)
