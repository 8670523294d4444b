-- Head-to-head sums pair by pair: what a club has in a group is what it has against each of the
-- others, added. The statement is the contract of a function of src/pair_laws.rt that does nothing.
use Rattle.std.specs.Prelude.{◌≡◌, ℕ, ℤ, not, ◌==◌, nat_eq, IsTrue, List, [], ◌∷◌, filter}
use Rattle.league_core.specs.declared.sheet.Sheet.{Sheet}
use Rattle.league_core.specs.game.Sheets.{IsWithinLimits, are_different}
use Rattle.league_core.specs.game.Results.{Results}
use Rattle.league_core.specs.game.Sums.{Worth, has_club, sum_among}
use Rattle.league_core.specs.search.PointRanges.{total_of}

-- a club's sum in its matches against one rival
abbrev pub sum_against : Worth → Sheet → Results → ℕ → ℕ → ℤ
sum_against worth sheet season club rival =
    sum_among (club ∷ rival ∷ []) worth sheet season club

-- in a group that names each of its clubs once, a club's sum is that against each other, added
abbrev pub GroupSumsAreOfPairs : Type 0
GroupSumsAreOfPairs =
    (worth : Worth) (sheet : Sheet) (season : Results) (group : List ℕ) (club : ℕ)
    → IsWithinLimits sheet → IsTrue (are_different nat_eq group) → IsTrue (has_club group club)
    → sum_among group worth sheet season club
    ≡ total_of (sum_against worth sheet season club)
    (filter (λ other. not (other == club)) group)
