-- What the low and the high key of a club in a zone say of its key at each finish there, by the
-- definitions alone: each statement is the contract of a function of src/key_laws.rt that does
-- nothing.
use Rattle.std.specs.Prelude.{ℕ, IsTrue, List}
use Rattle.league_core.specs.declared.sheet.Sheet.{Sheet}
use Rattle.league_core.specs.declared.zone.Literal.{Literal}
use Rattle.league_core.specs.game.Results.{Results}
use Rattle.league_core.specs.search.Zones.{IsMember}
use Rattle.league_core.specs.search.Options.{IsInBox}
use Rattle.league_core.specs.search.Keys.{key_of, is_key_from, low_key, high_key, AreAtMost}

-- at each finish in the box of a zone each part of the club's key is at least that of the low key
-- and at most that of the high key
abbrev pub KeyPartsAreInTheirRange : Type 0
KeyPartsAreInTheirRange =
    (sheet : Sheet) (season : Results) (zone : List Literal) (finish : Results) (club : ℕ)
    → IsInBox sheet season zone finish
    → AreAtMost (low_key sheet season zone club) (key_of sheet finish club)
    × AreAtMost (key_of sheet finish club) (high_key sheet season zone club)

-- so at each member of a zone, whoever its marks are about, a club's key lies between the low and
-- the high key as keys are compared
abbrev pub KeysLieBetween : Type 0
KeysLieBetween =
    (sheet : Sheet) (season : Results) (about : ℕ) (zone : List Literal) (finish : Results)
    (lots : List ℕ) (club : ℕ) → IsMember sheet season about zone finish lots
    → IsTrue (is_key_from (low_key sheet season zone club) (key_of sheet finish club))
    × IsTrue (is_key_from (key_of sheet finish club) (high_key sheet season zone club))
