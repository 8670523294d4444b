-- Counts over the clubs of a sheet, and places in the lots.
use Rattle.std.proofs.Common.{◌≡◌, ℕ, ◌+◌, not, eqb, cond, [], ◌∷◌, ◌++◌, arith}
use Rattle.std.proofs.lemmas.List.{map-id}
use Rattle.std.proofs.lemmas.List.FromFn.{filter_of_map_range_with_len_more}
use Rattle.league_core.specs.search.Zones.{others_of}

-- of one club more, all but the one are the others so far, and this club if it is another
pub others_of-suc : (clubs club : ℕ)
    → others_of (clubs + 1) club ≡ others_of clubs club ++ cond (not (eqb clubs club)) (clubs ∷ [])
    []
others_of-suc clubs club =
    let more = filter_of_map_range_with_len_more (λ other. not (eqb other club)) (λ (x : ℕ). x) 0
    clubs clubs (omega arith) in
    rw (map-id, map-id) at more
