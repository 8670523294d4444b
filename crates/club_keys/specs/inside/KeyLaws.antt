-- What holds of keys by the definitions alone: that they stand in one order, and that a zone in
-- which each fixture has one option leaves one key. Each statement is the contract of a function of
-- src/key_laws.rt that does nothing.
use Rattle.std.specs.Prelude.{◌≡◌, ℕ, ℤ, Bool, not, IsTrue, List}
use Rattle.std.specs.Ordering.{is_lt}
use Rattle.league_core.specs.declared.sheet.Sheet.{Sheet}
use Rattle.league_core.specs.declared.zone.Literal.{Literal}
use Rattle.league_core.specs.game.Results.{Results}
use Rattle.league_core.specs.game.HeadToHead.{by_first_difference}
use Rattle.league_core.specs.search.Options.{IsInBox, is_single}
use Rattle.league_core.specs.search.Keys.{key_of, is_key_from, low_key, high_key}

-- the key is greater than the other: it has the greater number in the first part in which they
-- differ
abbrev pub is_key_above : List ℤ → List ℤ → Bool
is_key_above other key = is_lt (by_first_difference key other)

-- the one key is greater, or else the other is as great or greater
abbrev pub KeysAreAboveOrBelow : Type 0
KeysAreAboveOrBelow =
    (key other : List ℤ) → is_key_above other key ≡ not (is_key_from key other)

-- a key is as great as itself
abbrev pub KeysAreFromThemselves : Type 0
KeysAreFromThemselves = (key : List ℤ) → IsTrue (is_key_from key key)

-- what is as great as a key is as great as all that this one is as great as
abbrev pub KeysAreFromLesserOnes : Type 0
KeysAreFromLesserOnes =
    (least middle key : List ℤ) → IsTrue (is_key_from least middle)
    → IsTrue (is_key_from middle key) → IsTrue (is_key_from least key)

-- two keys of which each is as great as the other are one
abbrev pub KeysAreOneIfFromEachOther : Type 0
KeysAreOneIfFromEachOther =
    (key other : List ℤ) → IsTrue (is_key_from key other) → IsTrue (is_key_from other key)
    → key ≡ other

-- if each fixture of a zone has one option, the low key of a club is the high key
abbrev pub EndsMeetInSingleZones : Type 0
EndsMeetInSingleZones =
    (sheet : Sheet) (season : Results) (zone : List Literal) (club : ℕ)
    → IsTrue (is_single sheet season zone)
    → low_key sheet season zone club ≡ high_key sheet season zone club

-- and so is its key at each finish in the box
abbrev pub KeysMeetInSingleZones : Type 0
KeysMeetInSingleZones =
    (sheet : Sheet) (season : Results) (zone : List Literal) (finish : Results) (club : ℕ)
    → IsTrue (is_single sheet season zone) → IsInBox sheet season zone finish
    → key_of sheet finish club ≡ low_key sheet season zone club
