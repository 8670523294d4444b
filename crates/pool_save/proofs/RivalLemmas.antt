-- Sets of rivals with one more, as lists in the order of their numbers.
use Rattle.std.proofs.Common.{◌≡◌, ℕ, Bool, true, false, ◌&&◌, ◌||◌, ◌==◌, filter, refl, sym, ap}
use Rattle.std.proofs.Common.{◌∙◌}
use Rattle.std.proofs.Common.{arith}
use Rattle.std.specs.List.{range_with_len}
use Rattle.std.specs.Int.{bit_at}
use Rattle.std.proofs.Common.{ltb}
use Rattle.std.proofs.Math.Bool.{or-false}
use Rattle.league_core.specs.declared.club_set.ClubSet.{ClubSet}
use Rattle.league_core.specs.declared.zone.Test.{Test}
use Rattle.league_core.specs.declared.zone.Test.TheVariants.{Home, Draw, HomeMost, AwayMost, Rival}
use Rattle.league_core.specs.game.ClubSets.{clubs_in}
use Rattle.league_core.specs.game.Limits.{set_width}
use Rattle.league_core.specs.game.Sums.{has_club}
use Rattle.league_core.specs.search.Zones.{is_of_rival}
use Rattle.league_core.proofs.ClubSetLemmas.{has_club-clubs_below, clubs_below-filter_range}
use Rattle.pool_save.specs.SavedReadings.{with_rival}

-- a set is the list of those of which a test is true, if exactly they are in it
set_is : (set : ClubSet) (p : ℕ → Bool) → ((x : ℕ) → has_club (clubs_in set) x ≡ p x)
    → clubs_in set ≡ filter p (range_with_len 0 set_width)
set_is set p same =
    clubs_below-filter_range 32 set.bits 32 p (omega arith) (λ x.
    let is = has_club-clubs_below 32 set.bits x in
    is ∙ twice (ltb x 32) (bit_at set.bits x == 1) ∙ ap (λ b. ltb x 32 && b) (sym is ∙ same x))
  where
    twice : (a b : Bool) → (a && b) ≡ (a && (a && b))
    twice true b = refl
    twice false b = refl

-- the set with a rival
pub set_with : (set new : ClubSet) (club : ℕ) → ((other : ℕ) → has_club (clubs_in new) other
    ≡ (has_club (clubs_in set) other || (true && (club == other))))
    → clubs_in new ≡ with_rival (clubs_in set) (Rival club)
unfolding with_rival
set_with set new club same =
    set_is new (λ x. has_club (clubs_in set) x || is_of_rival x (Rival club)) same

-- a test of a score adds none
pub set_stays : (set : ClubSet) (test : Test) → ((x : ℕ) → is_of_rival x test ≡ false)
    → clubs_in set ≡ with_rival (clubs_in set) test
unfolding with_rival
set_stays set test none =
    set_is set (λ x. has_club (clubs_in set) x || is_of_rival x test) (λ x.
    sym (ap (λ b. has_club (clubs_in set) x || b) (none x)
    ∙ or-false (has_club (clubs_in set) x)))
