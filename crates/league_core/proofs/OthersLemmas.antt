-- The clubs beside one, in the order of their numbers: who they are, how many, and where lots place
-- a club that stands before or after them.
use Rattle.std.proofs.Common.{◌≡◌, ◌≢◌, ℕ, suc, ◌+◌, ◌<◌, true, false, not, ◌||◌, ◌==◌, cond, List}
use Rattle.std.proofs.Common.{[], ◌∷◌, ◌++◌, length, sym, ◌∙◌, ap, arith}
use Rattle.std.specs.List.{range_with_len}
use Rattle.std.proofs.lemmas.Bool.{false≢true, true≢false, eqb-true, ne_eqb}
use Rattle.std.proofs.lemmas.List.Filters.{length-filter_both}
use Rattle.std.proofs.lemmas.List.FromFn.{length-range_with_len}
use Rattle.std.proofs.lemmas.Map.Views.{any-filter_same}
use Rattle.league_core.specs.game.Sums.{has_club}
use Rattle.league_core.specs.game.Ranking.{lot_of}
use Rattle.league_core.specs.search.Zones.{others_of}
use Rattle.league_core.proofs.ClubLemmas.{range_has}
use Rattle.std.proofs.Math.Bool.{not-not}
use Rattle.league_core.proofs.plain.Runs.{length-one_of}

-- what a list has not stands in what follows it
pub lot_of-absent : (lots more : List ℕ) (club : ℕ) → has_club lots club ≡ false
    → lot_of (lots ++ more) club ≡ length lots + lot_of more club
lot_of-absent [] more club h = omega arith
lot_of-absent (drawn ∷ lots) more club h =
    elim (drawn == club) as (λ b. (b || has_club lots club) ≡ false
    → cond (not b) (1 + lot_of (lots ++ more) club) 0 ≡ suc (length lots) + lot_of more club) [
      | true ↦ λ e. absurd (true≢false e)
      | false ↦ λ e. omega (arith, lot_of-absent lots more club e)
    ] h

-- what a list has stands in it, whatever follows
pub lot_of-present : (lots more : List ℕ) (club : ℕ) → has_club lots club ≡ true
    → lot_of (lots ++ more) club < length lots
lot_of-present [] more club h = absurd (false≢true h)
lot_of-present (drawn ∷ lots) more club h =
    elim (drawn == club) as (λ b. (b || has_club lots club) ≡ true
    → cond (not b) (1 + lot_of (lots ++ more) club) 0 < suc (length lots)) [
      | true ↦ λ e. omega arith
      | false ↦ λ e. omega (arith, lot_of-present lots more club e)
    ] h

-- the others have not the club
pub others_have_not : (clubs club : ℕ) → has_club (others_of clubs club) club ≡ false
others_have_not clubs club =
    any-filter_same (λ member. member == club) (λ other. not (other == club)) false
    (λ k same. ap not same) (range_with_len 0 clubs)

-- they have each other one
pub others_have : (clubs club other : ℕ) → other < clubs → other ≢ club
    → has_club (others_of clubs club) other ≡ true
others_have clubs club other below different =
    any-filter_same (λ member. member == other) (λ third. not (third == club)) true
    (λ k same. ap not (ne_eqb k club (λ e. different (sym (eqb-true k other same) ∙ e))))
    (range_with_len 0 clubs)
    ∙ range_has clubs other below

-- the others are one club fewer
pub length-others_of : (clubs club : ℕ) → club < clubs → length (others_of clubs club) + 1 ≡ clubs
length-others_of clubs club below =
    let both = length-filter_both (λ (other : ℕ). not (other == club))
    (λ (other : ℕ). other == club) (λ other. sym (not-not (other == club)))
    (range_with_len 0 clubs) in
    let one = length-one_of 0 clubs club (omega arith) (omega arith) in
    let all = length-range_with_len 0 clubs in
    omega arith
