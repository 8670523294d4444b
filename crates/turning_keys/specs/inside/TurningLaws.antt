-- What holds of turning keys by the definitions alone: each statement is the contract of a function
-- of src/laws.rt that does nothing.
use Rattle.std.specs.Prelude.{ℕ, ◌<◌, ℤ, List, [], ◌∷◌, length, IsTrue}
use Rattle.league_core.specs.declared.sheet.Sheet.{Sheet}
use Rattle.league_core.specs.declared.question.Claim.{Claim}
use Rattle.league_core.specs.game.Results.{Results, are_results}
use Rattle.league_core.specs.game.Sheets.{IsWithinLimits}
use Rattle.league_core.specs.inside.Extents.{IsNearZero}
use Rattle.cup_sheet.specs.CupLimits.{direct_places}
use Rattle.cup_sheet.specs.KeyBounds.{IsTurningKey, IsHalfwayKey}

-- for each side and each club of a sheet some key is the turning key
abbrev pub TurningKeysExist : Type 0
TurningKeysExist =
    (sheet : Sheet) (season : Results) (claim : Claim) (club : ℕ) → club < length sheet.clubs
    → (key : List ℤ) × IsTurningKey direct_places sheet season claim club key

-- each part is from -100,000 to 100,000
abbrev pub AreWithinFar : List ℤ → Type 0
AreWithinFar [] = Unit {0}
AreWithinFar (part ∷ parts) = IsNearZero 100000 part × AreWithinFar parts

-- so is each part of a turning key
abbrev pub TurningKeysAreWithin : Type 0
TurningKeysAreWithin =
    (sheet : Sheet) (season : Results) (claim : Claim) (club : ℕ) (turning : List ℤ)
    → IsWithinLimits sheet → IsTrue (are_results season)
    → IsTurningKey direct_places sheet season claim club turning → AreWithinFar turning

-- and of each key that is asked about on the way to it
abbrev pub HalfwayKeysAreWithin : Type 0
HalfwayKeysAreWithin =
    (sheet : Sheet) (season : Results) (claim : Claim) (club : ℕ) (turning key : List ℤ)
    → IsWithinLimits sheet → IsTrue (are_results season)
    → IsTurningKey direct_places sheet season claim club turning
    → IsHalfwayKey sheet season claim club turning key → AreWithinFar key
