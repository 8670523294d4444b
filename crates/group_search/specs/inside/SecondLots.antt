-- Lots that leave a club at the place of its group's candidate. If some do, then so do some in
-- which one other club is drawn first, and the club right after it.
use Rattle.std.specs.Prelude.{◌≡◌, ℕ, ◌+◌, Bool, not, ◌&&◌, ◌==◌, IsTrue, List, ◌∷◌, length, filter}
use Rattle.std.specs.List.{range_with_len}
use Rattle.league_core.specs.declared.sheet.Sheet.{Sheet}
use Rattle.league_core.specs.game.Results.{Results}
use Rattle.league_core.specs.game.Ranking.{are_lots, place_of}
use Rattle.cup_sheet.specs.CupLimits.{direct_places}

-- the club is neither of these two
abbrev pub is_neither : ℕ → ℕ → ℕ → Bool
is_neither first club other = not (other == first) && not (other == club)

-- of so many clubs one is drawn first, the other right after it, and then the rest in the order of
-- their numbers
abbrev pub second_lots : ℕ → ℕ → ℕ → List ℕ
second_lots clubs first club =
    first ∷ club ∷ filter (is_neither first club) (range_with_len 0 clubs)

-- lots with which the club ends as the candidate
pub record IsCandidateBy (sheet : Sheet) (finish : Results) (club : ℕ) (lots : List ℕ)
    : Type 0 where
  pub drawn : IsTrue (are_lots (length sheet.clubs) lots)
  pub place : place_of sheet finish lots club ≡ direct_places + 1
