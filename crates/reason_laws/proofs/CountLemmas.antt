-- How many of a list pass a test: what another test takes out of them, and one of its clubs.
use Rattle.std.proofs.Common.{◌≡◌, ℕ, ◌<◌, not, ◌==◌, count_by, sym, arith}
use Rattle.std.specs.List.{range_with_len}
use Rattle.std.proofs.lemmas.List.Sums.{length-filter}
use Rattle.std.proofs.lemmas.List.Filters.{length-filter_both}
use Rattle.std.proofs.lemmas.List.FromFn.{length-range_with_len}
use Rattle.league_core.proofs.OthersLemmas.{length-others_of}
use Rattle.std.proofs.Math.Bool.{not-not}

-- of the clubs of a sheet one has its number
pub count_by-one : (clubs club : ℕ) → club < clubs
    → count_by (λ other. other == club) (range_with_len 0 clubs) ≡ 1
count_by-one clubs club below =
    let both = length-filter_both (λ (other : ℕ). not (other == club))
    (λ (other : ℕ). other == club) (λ other. sym (not-not (other == club)))
    (range_with_len 0 clubs) in
    omega (
      arith,
      both,
      length-range_with_len 0 clubs,
      length-others_of clubs club below,
      length-filter (λ (other : ℕ). other == club) (range_with_len 0 clubs),
    )
