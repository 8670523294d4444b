use Rattle.near_bound.specs.inside.Levels.{IsTableAt}
use Rattle.near_box.proofs.BarredLemmas.{AreBarredBelow}
use Rattle.near_box.proofs.side.Side.barred_among.Given as goal

-- the rivals so far are looked at, and the table is of the level
abbrev pub invariant-loop-rival : goal.invariant-loop-rival
invariant-loop-rival l =
    IsTableAt l.level l.table × AreBarredBelow l.self l.rivals l.rival l.barred
