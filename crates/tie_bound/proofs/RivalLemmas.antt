-- The rivals that pass a test, as a set: how many they are, and whether there is one.
use Rattle.std.proofs.Common.{◌≡◌, ℕ, ◌<◌, Bool, true, not, ◌&&◌, ◌==◌, length, filter, count_by}
use Rattle.std.proofs.Common.{sym, ap, ◌∙◌}
use Rattle.std.specs.List.{range_with_len}
use Rattle.std.proofs.lemmas.Bool.{ltb-true, and_parts}
use Rattle.std.proofs.lemmas.List.Sums.{length-filter}
use Rattle.league_core.specs.declared.sheet.Sheet.{Sheet}
use Rattle.league_core.specs.game.Sums.{has_club}
use Rattle.league_core.specs.game.ClubSets.{clubs_below}
use Rattle.league_core.specs.search.Zones.{rivals_of}
use Rattle.league_core.proofs.ClubSetLemmas.{clubs_below-filter, has_club-filter, has_club-range}
use Rattle.league_core.proofs.plain.TruthValues.{and_agree}

-- a rival is a club of the sheet
pub rival_below : (sheet : Sheet) (club rival : ℕ) → has_club (rivals_of sheet club) rival ≡ true
    → rival < length sheet.clubs
rival_below sheet club rival has =
    let both = and_parts (has_club (range_with_len 0 (length sheet.clubs)) rival)
    (not (rival == club)) (sym (has_club-filter (λ other. not (other == club))
    (range_with_len 0 (length sheet.clubs)) rival) ∙ has) in
    ltb-true rival (length sheet.clubs) (sym (has_club-range (length sheet.clubs) rival) ∙ both.0)

-- the rivals that are in a set as well, if the set is given by a test of rivals
pub common-is : (sheet : Sheet) (club all found : ℕ) (set test : ℕ → Bool)
    → clubs_below 32 all ≡ rivals_of sheet club
    → ((x : ℕ) → has_club (clubs_below 32 found) x ≡ (has_club (clubs_below 32 all) x && set x))
    → ((x : ℕ) → x < length sheet.clubs → set x ≡ test x)
    → clubs_below 32 found ≡ filter test (rivals_of sheet club)
common-is sheet club all found set test rivals common same =
    clubs_below-filter 32 found all test
    (λ x. common x ∙ and_agree (has_club (clubs_below 32 all) x) (set x) (test x)
    (λ has. same x (rival_below sheet club x (sym (ap (λ xs. has_club xs x) rivals) ∙ has))))
    ∙ ap (filter test) rivals

-- how many they are
pub count-is : (sheet : Sheet) (club found : ℕ) (test : ℕ → Bool)
    → clubs_below 32 found ≡ filter test (rivals_of sheet club)
    → length (clubs_below 32 found) ≡ count_by test (rivals_of sheet club)
count-is sheet club found test is = ap length is ∙ length-filter test (rivals_of sheet club)
