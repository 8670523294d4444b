-- The least and the greatest place of a club over all drawings of lots.
use Rattle.std.specs.Prelude.{◌≡◌, ◌≤◌, ℕ, IsTrue, List, length}
use Rattle.league_core.specs.declared.sheet.Sheet.{Sheet}
use Rattle.league_core.specs.game.Results.{Results}
use Rattle.league_core.specs.game.Ranking.{are_lots, place_of}

-- with some lots the club has the place, and with no lots a lesser one
pub record IsBestPlace (sheet : Sheet) (season : Results) (club place : ℕ) : Type 0 where
  pub some : (lots : List ℕ) × IsTrue (are_lots (length sheet.clubs) lots)
      × (place_of sheet season lots club ≡ place)
  pub least : (lots : List ℕ) → IsTrue (are_lots (length sheet.clubs) lots)
      → place ≤ place_of sheet season lots club

-- with some lots the club has the place, and with no lots a greater one
pub record IsWorstPlace (sheet : Sheet) (season : Results) (club place : ℕ) : Type 0 where
  pub some : (lots : List ℕ) × IsTrue (are_lots (length sheet.clubs) lots)
      × (place_of sheet season lots club ≡ place)
  pub greatest : (lots : List ℕ) → IsTrue (are_lots (length sheet.clubs) lots)
      → place_of sheet season lots club ≤ place
