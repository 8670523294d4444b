use Rattle.std.proofs.Common.{take}
use Rattle.score_box.specs.inside.OpenSides.{AreSidesOf}
use Rattle.score_box.proofs.open_matches.sides_of.Given as goal

-- the clubs of the fixtures so far
abbrev pub invariant-loop-number : goal.invariant-loop-number
invariant-loop-number l = AreSidesOf l.fixtures (take l.number-index l.numbers) l.sides.items
