-- The network: what a cut takes from the positive weights is the excess of its source side, and so
-- the least cut has the least best side.
use Rattle.std.proofs.Common.{◌≡◌, ℕ, ◌+◌, ◌<◌, ◌≤◌, ℤ, pos, ◌+ℤ◌, Bool, true, false, not, ◌&&◌}
use Rattle.std.proofs.Common.{◌||◌, eqb, ltb, cond, List, [], ◌∷◌, length, slice_index, refl, sym}
use Rattle.std.proofs.Common.{ap, ◌∙◌, arith}
use Rattle.std.proofs.lemmas.Int.{ints}
use Rattle.std.proofs.lemmas.Bool.{false≢true, and_parts, eq-eqb, ne_eqb, lt-ltb, le-ltb}
use Rattle.league_core.specs.declared.club_set.ClubSet.{ClubSet}
use Rattle.league_core.specs.game.ClubSets.{clubs_in}
use Rattle.flow_net.specs.declared.arcs.Arc.{Arc}
use Rattle.flow_net.specs.inside.Cut.{IsCut, IsLeastCut, capacity_of}
use Rattle.flow_bound.specs.declared.tally.Pair.{Pair}
use Rattle.flow_bound.specs.inside.Parts.{sum_of_side, sum_of_pairs, has_both, excess_in, in_both}
use Rattle.flow_bound.specs.inside.Parts.{IsPartOf, HasNoExcess, IsLeastBest, side_of}
use Rattle.flow_bound.specs.inside.Network.{IsNumbering, has_home_in, parts_pair_in, through}
use Rattle.flow_bound.proofs.PartLemmas.{sum_of_pairs-cons, excess_in-same}

-- a pair at home is whole on the side, or parted
pair_at_home : (surplus : ℕ) (home_rest home_side away_rest away_side : Bool)
    → cond ((home_rest && away_rest) && (home_rest && home_side)) surplus 0
    ≡ cond ((home_rest && away_rest) && (home_side && not away_side)) surplus 0
    + cond ((home_rest && home_side) && (away_rest && away_side)) surplus 0
pair_at_home surplus false home_side away_rest away_side = omega arith
pair_at_home surplus true false false away_side = omega arith
pair_at_home surplus true false true away_side = omega arith
pair_at_home surplus true true false away_side = omega arith
pair_at_home surplus true true true true = omega arith
pair_at_home surplus true true true false = omega arith

pairs_at_home : (pairs : List Pair) (rest side : ℕ → Bool)
    → sum_of_pairs (has_home_in rest (in_both rest side)) pairs
    ≡ sum_of_pairs (parts_pair_in rest side) pairs
    + sum_of_pairs (has_both (in_both rest side)) pairs
pairs_at_home [] rest side = omega arith
pairs_at_home (pair ∷ pairs) rest side =
    let more = pairs_at_home pairs rest side in
    let here = pair_at_home pair.surplus (rest pair.home) (side pair.home) (rest pair.away)
    (side pair.away) in
    let home = sum_of_pairs-cons (has_home_in rest (in_both rest side)) pair pairs in
    let parted = sum_of_pairs-cons (parts_pair_in rest side) pair pairs in
    let both = sum_of_pairs-cons (has_both (in_both rest side)) pair pairs in
    omega arith

-- a cut and the excess of its source side are the positive weights together
abbrev pub IsNetworkOf : List ℤ → List Pair → ClubSet → List ℕ → List Arc → ℕ → Type 0
IsNetworkOf table pairs rest places arcs total =
    (side : ℕ → Bool) → IsCut (length (clubs_in rest)) (length (clubs_in rest) + 1) side
    → pos (capacity_of side arcs)
    +ℤ excess_in table pairs (in_both (side_of rest) (through places side)) ≡ pos total

pub network_is : (table weights : List ℤ) (pairs : List Pair) (rest : ClubSet) (places : List ℕ)
    (first arcs : List Arc) (total : ℕ)
    → ((side : ℕ → Bool) → sum_of_side weights side
    ≡ sum_of_side table side +ℤ pos (sum_of_pairs (has_home_in (side_of rest) side) pairs))
    → ((side : ℕ → Bool) → IsCut (length (clubs_in rest)) (length (clubs_in rest) + 1) side
    → pos (capacity_of side first)
    +ℤ sum_of_side weights (in_both (side_of rest) (through places side)) ≡ pos total)
    → ((side : ℕ → Bool) → capacity_of side arcs ≡ capacity_of side first
    + sum_of_pairs (parts_pair_in (side_of rest) (through places side)) pairs)
    → IsNetworkOf table pairs rest places arcs total
network_is table weights pairs rest places first arcs total weighed clubs more side cut =
    let weight = weighed (in_both (side_of rest) (through places side)) in
    let home = pairs_at_home pairs (side_of rest) (through places side) in
    let taken = clubs side cut in
    let added = more side in
    omega (arith, ints)

-- the nodes of the clubs of a part, on the side of the source
abbrev pub with_source : ClubSet → (ℕ → Bool) → ℕ → Bool
with_source rest part node =
    eqb node (length (clubs_in rest))
    || (ltb node (length (clubs_in rest)) && part (slice_index (clubs_in rest) node))

cut_of_part : (rest : ClubSet) (part : ℕ → Bool)
    → IsCut (length (clubs_in rest)) (length (clubs_in rest) + 1) (with_source rest part)
cut_of_part rest part = record {
  has_source =
      let source = length (clubs_in rest) in
      ap (λ b. b || (ltb source source && part (slice_index (clubs_in rest) source)))
      (eq-eqb source source refl);
  lacks_sink =
      let source = length (clubs_in rest) in
      let part_at = part (slice_index (clubs_in rest) (source + 1)) in
      ap (λ b. b || (ltb (source + 1) source && part_at))
      (ne_eqb (source + 1) source (λ e. omega arith))
      ∙ ap (λ b. b && part_at) (le-ltb (source + 1) source (omega arith));
}

-- at the node of a club of the rest
at_node : (rest : ClubSet) (places : List ℕ) (part : ℕ → Bool) (club : ℕ) → IsNumbering rest places
    → side_of rest club ≡ true → with_source rest part (slice_index places club) ≡ part club
at_node rest places part club numbered among =
    let node = slice_index places club in
    let source = length (clubs_in rest) in
    let within = numbered.within club among in
    ap (λ b. b || (ltb node source && part (slice_index (clubs_in rest) node)))
    (ne_eqb node source (λ e. omega arith))
    ∙ ap (λ b. b && part (slice_index (clubs_in rest) node)) (lt-ltb node source within)
    ∙ ap part (numbered.back club among)

in_part : (rest : ClubSet) (places : List ℕ) (part : ℕ → Bool) → IsNumbering rest places
    → IsPartOf part (side_of rest) → (club : ℕ)
    → in_both (side_of rest) (through places (with_source rest part)) club ≡ part club
in_part rest places part numbered inside club = at (side_of rest club) (part club) refl refl
  where
    at : (r p : Bool) → side_of rest club ≡ r → part club ≡ p
        → (side_of rest club && with_source rest part (slice_index places club)) ≡ part club
    at true p is_rest is_part =
        ap (λ b. b && with_source rest part (slice_index places club)) is_rest
        ∙ at_node rest places part club numbered is_rest
    at false true is_rest is_part = absurd (false≢true (sym is_rest ∙ inside club is_part))
    at false false is_rest is_part =
        ap (λ b. b && with_source rest part (slice_index places club)) is_rest ∙ sym is_part

-- the excess of a part is what its cut takes
cut_is : (table : List ℤ) (pairs : List Pair) (rest : ClubSet) (places : List ℕ) (part : ℕ → Bool)
    (arcs : List Arc) (total : ℕ) → IsNumbering rest places
    → IsNetworkOf table pairs rest places arcs total → IsPartOf part (side_of rest)
    → pos (capacity_of (with_source rest part) arcs) +ℤ excess_in table pairs part ≡ pos total
cut_is table pairs rest places part arcs total numbered network inside =
    let cut = network (with_source rest part) (cut_of_part rest part) in
    let same = excess_in-same table pairs
    (in_both (side_of rest) (through places (with_source rest part))) part
    (in_part rest places part numbered inside) in
    omega (arith, ints)

-- if the least cut takes all, no part has an excess
pub no_excess_at_cut : (table : List ℤ) (pairs : List Pair) (rest : ClubSet) (places : List ℕ)
    (side : ℕ → Bool) (arcs : List Arc) (total value : ℕ) → IsNumbering rest places
    → IsNetworkOf table pairs rest places arcs total
    → IsLeastCut arcs (length (clubs_in rest)) (length (clubs_in rest) + 1) value side
    → total ≤ value → HasNoExcess table pairs (side_of rest)
no_excess_at_cut table pairs rest places side arcs total value numbered network least all part
    inside =
    let taken = cut_is table pairs rest places part arcs total numbered network inside in
    let none_less = least.none_less (with_source rest part) (cut_of_part rest part) in
    omega (arith, ints)

-- if it takes less, the clubs on the source's side are the least best part
pub best_at_cut : (table : List ℤ) (pairs : List Pair) (rest : ClubSet) (places : List ℕ)
    (side best : ℕ → Bool) (arcs : List Arc) (total value : ℕ) → IsNumbering rest places
    → IsNetworkOf table pairs rest places arcs total
    → IsLeastCut arcs (length (clubs_in rest)) (length (clubs_in rest) + 1) value side
    → value < total
    → ((club : ℕ) → best club ≡ in_both (side_of rest) (through places side) club)
    → IsLeastBest table pairs (side_of rest) best
best_at_cut table pairs rest places side best arcs total value numbered network least some is =
    record {
      part = λ club among.
          (and_parts (side_of rest club) (through places side club) (sym (is club) ∙
          among)).0;
      exceeds = omega (arith, ints, own);
      greatest = λ part inside.
          let taken = cut_is table pairs rest places part arcs total numbered network inside in
          let none_less = least.none_less (with_source rest part) (cut_of_part rest part) in
          omega (arith, ints, own);
      contained = λ part inside same club among.
          let taken = cut_is table pairs rest places part arcs total numbered network inside in
          let equal : capacity_of (with_source rest part) arcs ≡ value = omega (arith, ints, own) in
          let parts = and_parts (side_of rest club) (through places side club) (sym (is club)
          ∙ among)
          in
          sym (at_node rest places part club numbered parts.0)
          ∙ least.contained (with_source rest part) (cut_of_part rest part) equal
          (slice_index places club) parts.1;
    }
  where
    own : pos value +ℤ excess_in table pairs best ≡ pos total
    own =
        let cut = network side least.cut in
        let same = excess_in-same table pairs best (in_both (side_of rest) (through places side))
        is in
        let value_is = least.value in
        omega (arith, ints)
