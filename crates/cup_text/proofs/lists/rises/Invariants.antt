use Rattle.std.proofs.Common.{◌≡◌, drop}
use Rattle.cup_text.specs.CupForms.{is_rising_from}
use Rattle.cup_text.proofs.lists.rises.Given as goal

-- the list rises if its rest does, from the number after the one before it on
abbrev pub invariant-loop-number : goal.invariant-loop-number
invariant-loop-number l =
    is_rising_from 0 l.list ≡ is_rising_from l.least (drop l.number-index l.list)
