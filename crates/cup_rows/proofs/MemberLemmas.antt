-- The numbers that a set of clubs can name.
use Rattle.std.proofs.Common.{◌<◌, ℕ, arith}
use Rattle.std.specs.Prelude.{All, ◌==◌}
use Rattle.std.specs.Int.{bit_at}
use Rattle.std.specs.List.{range_with_len}
use Rattle.std.proofs.lemmas.List.Elements.{All-filter}
use Rattle.std.proofs.lemmas.List.FromFn.{get_or-range_with_len}
use Rattle.league_core.specs.declared.club_set.ClubSet.{ClubSet}
use Rattle.league_core.specs.game.ClubSets.{clubs_below, clubs_in}

-- a set names only clubs below its width
pub few_numbers : (set : ClubSet) → All (λ (club : ℕ). club < 32) (clubs_in set)
unfolding clubs_below
few_numbers set =
    All-filter (λ club. bit_at set.bits club == 1) (λ (club : ℕ). club < 32) (range_with_len 0 32)
    (λ k d below. omega (arith, below, get_or-range_with_len 0 32 k d below))
