-- The clubs of a set by their places in it: a club's place is how many clubs of the set come before
-- it.
use Rattle.std.proofs.Common.{◌≡◌, ℕ, zero, suc, ◌+◌, ◌-◌, ◌<◌, true, eqb, cond}
use Rattle.std.proofs.Common.{List, [], ◌∷◌, ◌++◌, length, get_or, refl, sym, ap, ◌∙◌, arith}
use Rattle.std.proofs.Common.{append_assoc}
use Rattle.std.specs.Int.{bit_at}
use Rattle.std.proofs.lemmas.List.{append-nil, get_or_append_left, get_or_push, length-append}
use Rattle.std.proofs.lemmas.List.{length_push}
use Rattle.league_core.specs.game.Sums.{has_club}
use Rattle.league_core.specs.game.ClubSets.{clubs_below}
use Rattle.league_core.proofs.ClubSetLemmas.{clubs_below-more, clubs_below-suc}

-- the clubs below a number are the first of those below a greater one
clubs_below-front : (count more bits : ℕ)
    → (later : List ℕ) × (clubs_below (count + more) bits ≡ clubs_below count bits ++ later)
clubs_below-front count zero bits =
    let none : count + 0 ≡ count = omega arith in
    ([], ap (λ n. clubs_below n bits) none ∙ sym (append-nil (clubs_below count bits)))
clubs_below-front count (suc more) bits =
    let front = clubs_below-front count more bits in
    let next : count + suc more ≡ count + more + 1 = omega arith in
    let last = cond (eqb (bit_at bits (count + more)) 1) ((count + more) ∷ []) [] in (
      front.0 ++ last,
      ap (λ n. clubs_below n bits) next ∙ clubs_below-suc (count + more) bits
          ∙ ap (λ xs. xs ++ last) front.1 ∙ append_assoc (clubs_below count bits) front.0 last,
    )

-- the clubs of a set: those before one of it, that one, and those after it
clubs_round : (bits club : ℕ) → club < 32 → has_club (clubs_below 32 bits) club ≡ true
    → (later : List ℕ) × (clubs_below 32 bits ≡ (clubs_below club bits ++ club ∷ []) ++ later)
clubs_round bits club within has =
    let front = clubs_below-front (club + 1) (31 - club) bits in
    let all : 32 ≡ club + 1 + (31 - club) = omega arith in (
      front.0,
      ap (λ n. clubs_below n bits) all ∙ front.1
          ∙ ap (λ xs. xs ++ front.0) (clubs_below-more club bits within
          ∙ ap (λ b. clubs_below club bits ++ cond b (club ∷ []) []) has),
    )

-- a club's place is one of the set's places, and the club stands there
pub place_within : (bits club : ℕ) → club < 32 → has_club (clubs_below 32 bits) club ≡ true
    → length (clubs_below club bits) < length (clubs_below 32 bits)
place_within bits club within has =
    let round = clubs_round bits club within has in
    omega (
      arith,
      ap length round.1,
      length-append (clubs_below club bits ++ club ∷ []) round.0,
      length_push (clubs_below club bits) club,
    )

pub place_back : (bits club : ℕ) → club < 32 → has_club (clubs_below 32 bits) club ≡ true
    → get_or (clubs_below 32 bits) (length (clubs_below club bits)) 0 ≡ club
place_back bits club within has =
    let round = clubs_round bits club within has in
    let place = length (clubs_below club bits) in
    let below : place < length (clubs_below club bits ++ club ∷ []) =
    omega (arith, length_push (clubs_below club bits) club) in
    ap (λ xs. get_or xs place 0) round.1
    ∙ get_or_append_left (clubs_below club bits ++ club ∷ []) round.0 0 place below
    ∙ get_or_push (clubs_below club bits) club 0 place refl
