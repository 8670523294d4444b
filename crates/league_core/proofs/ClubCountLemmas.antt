-- How many clubs a set has, and how many clubs of a sheet pass a test.
use Rattle.std.proofs.Common.{◌≡◌, ℕ, zero, suc, ◌<◌, ◌≤◌, Bool, true, ◌&&◌, nat_lt, eqb, length}
use Rattle.std.proofs.Common.{count_by, sym, ap, ◌∙◌, arith, add-one}
use Rattle.std.specs.Int.{bit_at}
use Rattle.std.proofs.lemmas.Bool.{and_parts, ltb-true}
use Rattle.std.proofs.lemmas.List.Sums.{length-filter}
use Rattle.league_core.specs.declared.club_set.ClubSet.{ClubSet}
use Rattle.league_core.specs.declared.sheet.Sheet.{Sheet}
use Rattle.league_core.specs.game.Sheets.{clubs_of}
use Rattle.league_core.specs.game.Sums.{has_club}
use Rattle.league_core.specs.game.ClubSets.{clubs_below, clubs_in}
use Rattle.league_core.proofs.ClubSetLemmas.{has_club-clubs_below, has_club-range, clubs_below-none}
use Rattle.league_core.proofs.ClubSetLemmas.{clubs_below-filter_range, length-clubs_below-suc}
use Rattle.league_core.proofs.plain.TruthValues.{one_if-most}

-- a club of a set is below its width
pub member_below : (set : ClubSet) (club : ℕ) → has_club (clubs_in set) club ≡ true → club < 32
member_below set club has =
    ltb-true club 32
    (and_parts (nat_lt club 32) (eqb (bit_at set.bits club) 1)
    (sym (has_club-clubs_below 32 set.bits club) ∙ has)).0

-- no more clubs than are looked at
pub few_below : (count bits : ℕ) → count ≤ 32 → length (clubs_below count bits) ≤ count
few_below zero bits within = omega (arith, ap length (clubs_below-none bits))
few_below (suc count) bits within =
    let rest = few_below count bits (omega arith) in
    let next = length-clubs_below-suc count bits (omega arith) in
    let same = ap (λ n. length (clubs_below n bits)) (add-one count) in
    let one = one_if-most (has_club (clubs_below 32 bits) count) in
    omega arith

-- a set has no more clubs than its width
pub few_members : (set : ClubSet) → length (clubs_in set) ≤ 32
few_members set = few_below 32 set.bits (omega arith)

-- a set that has the clubs of the sheet which pass a test has as many as pass it
pub length-passing : (sheet : Sheet) (set : ClubSet) (p : ℕ → Bool) → length sheet.clubs ≤ 32
    → ((x : ℕ) → has_club (clubs_in set) x ≡ (has_club (clubs_of sheet) x && p x))
    → length (clubs_in set) ≡ count_by p (clubs_of sheet)
length-passing sheet set p few are =
    ap length (clubs_below-filter_range 32 set.bits (length sheet.clubs) p few
    (λ x. are x ∙ ap (λ b. b && p x) (has_club-range (length sheet.clubs) x)))
    ∙ length-filter p (clubs_of sheet)
