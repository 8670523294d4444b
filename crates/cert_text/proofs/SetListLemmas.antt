-- A set that is read from a list, club by club.
use Rattle.std.proofs.Common.{◌≡◌, ℕ, ◌+◌, ◌*◌, ◌%◌, ◌^◌, ◌<◌, ◌≤◌, List, ◌∷◌, drop, length, get_or}
use Rattle.std.proofs.Common.{Option, Some, None, pow-suc, add-one, ap, sym, ◌∙◌, arith}
use Rattle.std.specs.Prelude.{◌&&◌, if◌then◌else◌}
use Rattle.std.proofs.Math.Pow.{pow_mono}
use Rattle.std.proofs.lemmas.Bool.{lt-ltb, le-leb}
use Rattle.std.proofs.lemmas.List.{at_drop_more}
use Rattle.league_core.specs.declared.club_set.ClubSet.{ClubSet}
use Rattle.cert_text.specs.Ranges.{is_club_number}
use Rattle.cert_text.specs.Places.{are_rising_from, bits_at, set_listed}
use Rattle.league_core.proofs.plain.Numbers.{power_fits}

-- the set of what is left of a list, with the bits so far, if it goes on rising
abbrev pub set_of_rest : ℕ → ℕ → List ℕ → Option ClubSet
set_of_rest least bits rest =
    if are_rising_from least rest then Some (record { bits = bits + bits_at rest }) else None

-- the set of the list is that
abbrev pub IsListedSoFar : List ℕ → ℕ → ℕ → ℕ → Type 0
IsListedSoFar clubs count least bits = set_listed clubs ≡ set_of_rest least bits (drop count clubs)

-- the next club rises
pub next_of_rest : (least bits club : ℕ) (rest : List ℕ) → least ≤ club → club < 24
    → set_of_rest least bits (club ∷ rest) ≡ set_of_rest (club + 1) (bits + 2 ^ club) rest
next_of_rest least bits club rest rises below =
    ap (λ b. if b && is_club_number club && are_rising_from (club + 1) rest
    then Some (set (bits + (2 ^ club + bits_at rest))) else None) (le-leb least club rises)
    ∙ ap (λ b. if b && are_rising_from (club + 1) rest
    then Some (set (bits + (2 ^ club + bits_at rest))) else None) (lt-ltb club 24 below)
    ∙ ap (λ n. if are_rising_from (club + 1) rest then Some (set n) else None) together
  where
    set : ℕ → ClubSet
    set n = record { bits = n }

    together : bits + (2 ^ club + bits_at rest) ≡ bits + 2 ^ club + bits_at rest
    together = omega arith

-- the bits with that of the next club are below those of clubs after it
pub bits_more : (least bits club : ℕ) → least ≤ club → club < 24 → bits < 2 ^ least
    → (club + 1 ≤ 24) × (bits + 1 * 2 ^ club % 2 ^ 32 < 2 ^ (club + 1))
bits_more least bits club rises below fits =
    let small : bits < 2 ^ club = omega (arith, fits, pow_mono rises) in
    let both : bits + 2 ^ club < 2 ^ (club + 1) = more small in
    let bit = power_fits club below in (omega (arith, below), omega (arith, both, bit))
  where
    more : bits < 2 ^ club → bits + 2 ^ club < 2 ^ (club + 1)
    more small =
        let double : 2 ^ (club + 1) ≡ 2 ^ club * 2 =
        ap (λ n. 2 ^ n) (add-one club) ∙ pow-suc 2 club in
        omega (arith, small, double)

-- a club more was read
pub listed_more : (clubs : List ℕ) (count least bits : ℕ) → count < length clubs
    → least ≤ get_or clubs count 0 → get_or clubs count 0 < 24 → bits < 2 ^ least
    → IsListedSoFar clubs count least bits
    → (get_or clubs count 0 + 1 ≤ 24)
    × (bits + 1 * 2 ^ get_or clubs count 0 % 2 ^ 32 < 2 ^ (get_or clubs count 0 + 1))
    × IsListedSoFar clubs (count + 1) (get_or clubs count 0 + 1)
    (bits + 1 * 2 ^ get_or clubs count 0 % 2 ^ 32)
listed_more clubs count least bits inside rises below fits so_far =
    let club = get_or clubs count 0 in
    let within = bits_more least bits club rises below fits in (
      within.0,
      within.1,
      so_far
          ∙ at_drop_more (set_of_rest least bits) clubs count 0 inside
          ∙ next_of_rest least bits club (drop (count + 1) clubs) rises below
          ∙ ap (λ n. set_of_rest (club + 1) (bits + n) (drop (count + 1) clubs))
          (sym (power_fits club below)),
    )
