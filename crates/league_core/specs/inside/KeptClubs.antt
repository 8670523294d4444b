-- The clubs that a test keeps of a set.
use Rattle.std.specs.Prelude.{ℕ, Bool, List, IsTrue}
use Rattle.league_core.specs.game.Sums.{has_club}

-- the clubs kept are of these clubs, and of each of these a call of the test says whether it is
pub record AreKept (Says : ℕ → Bool → Type 0) (clubs kept : List ℕ) : Type 0 where
  pub tested : (club : ℕ) → IsTrue (has_club clubs club) → Says club (has_club kept club)
  pub among : (club : ℕ) → IsTrue (has_club kept club) → IsTrue (has_club clubs club)
