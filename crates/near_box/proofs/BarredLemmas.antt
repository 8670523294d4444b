-- Rivals that are looked at one after the other.
use Rattle.std.proofs.Common.{◌≡◌, ◌≢◌, ◌<◌, ◌≤◌, ◌+◌, ◌⊎◌, inl, inr, ℕ, Bool, true, false, ◌&&◌}
use Rattle.std.proofs.Common.{◌||◌}
use Rattle.std.proofs.Common.{◌==◌, nat_lt, List, length, refl, sym, ap, ◌∙◌, arith}
use Rattle.std.proofs.lemmas.Bool.{cases_lt, cases_eq, lt-ltb, le-ltb, eq-eqb, ne_eqb}
use Rattle.league_core.specs.declared.club_set.ClubSet.{ClubSet}
use Rattle.league_core.specs.declared.zone.Literal.{Literal}
use Rattle.league_core.specs.game.ClubSets.{clubs_in}
use Rattle.league_core.specs.game.Sums.{has_club}
use Rattle.league_core.specs.search.Options.{has_finish}
use Rattle.near_laws.specs.Near.{cannot_both_have}
use Rattle.near_bound.specs.inside.ZonesLeft.{StandsFor}
use Rattle.near_box.specs.declared.side.Side.{Side}
use Rattle.near_box.specs.inside.Barred.{AreBarred, AreClubsLeft, is_barred_at}

-- the set has those of the rivals below a number that are barred
abbrev pub AreBarredBelow : Side → ClubSet → ℕ → ClubSet → Type 0
AreBarredBelow side rivals count barred =
    (zone : List Literal) → StandsFor side.left.now zone
    → has_finish side.left.now.sheet.now side.left.now.season.now zone ≡ true → (rival : ℕ)
    → has_club (clubs_in barred) rival ≡ (nat_lt rival count && is_barred_at side zone rivals rival)

or_nothing : (one other : Bool) → (one || (other && false)) ≡ one
or_nothing true true = refl
or_nothing true false = refl
or_nothing false true = refl
or_nothing false false = refl

and_all : (one : Bool) → (one && true) ≡ one
and_all true = refl
and_all false = refl

-- one number more
pub one_rival_more : (test : ℕ → Bool) (count rival : ℕ) (found : Bool) → found ≡ test count
    → ((nat_lt rival count && test rival) || (found && (count == rival)))
    ≡ (nat_lt rival (count + 1) && test rival)
one_rival_more test count rival found is = by (cases_lt rival count)
  where
    Wanted : Type 0
    Wanted = ((nat_lt rival count && test rival) || (found && (count == rival)))
        ≡ (nat_lt rival (count + 1) && test rival)

    later : (count ≡ rival) ⊎ (count ≢ rival) → count ≤ rival → Wanted
    later (inl same) past =
        (λ i. (le-ltb rival count past i && test rival) || (found && eq-eqb count rival same i))
        ∙ and_all found ∙ is ∙ ap test same
        ∙ ap (λ b. b && test rival) (sym (lt-ltb rival (count + 1) (omega (arith, same))))
    later (inr other) past =
        (λ i. (le-ltb rival count past i && test rival) || (found && ne_eqb count rival other i))
        ∙ or_nothing false found
        ∙ ap (λ b. b && test rival)
        (sym (le-ltb rival (count + 1) (omega (arith, past, other))))

    by : (rival < count) ⊎ (count ≤ rival) → Wanted
    by (inl below) =
        (λ i. (lt-ltb rival count below i && test rival)
        || (found && ne_eqb count rival (λ e. absurd (omega (arith, below, e))) i))
        ∙ or_nothing (test rival) found
        ∙ ap (λ b. b && test rival) (sym (lt-ltb rival (count + 1) (omega (arith, below))))
    by (inr past) = later (cases_eq count rival) past

-- all clubs of the sheet are looked at: so are all rivals
pub all_are_looked_at : (side : Side) (rivals barred : ClubSet) (count : ℕ)
    → length side.left.now.sheet.now.clubs ≤ count → AreClubsLeft side.left.now rivals
    → AreBarredBelow side rivals count barred → AreBarred side rivals barred
all_are_looked_at side rivals barred count all inside below zone stands finish rival =
    below zone stands finish rival
    ∙ by (has_club (clubs_in rivals) rival) refl
  where
    Cannot : Bool
    Cannot = cannot_both_have side.left.now.sheet.now side.left.now.season.now zone side.points
        side.club rival

    by : (has : Bool) → has_club (clubs_in rivals) rival ≡ has
        → (nat_lt rival count && is_barred_at side zone rivals rival)
        ≡ is_barred_at side zone rivals rival
    by true has =
        ap (λ b. b && is_barred_at side zone rivals rival)
        (lt-ltb rival count (omega (arith, all, inside rival has)))
    by false has =
        ap (λ b. nat_lt rival count && (b && Cannot)) has
        ∙ nothing (nat_lt rival count)
        ∙ ap (λ b. b && Cannot) (sym has)
      where
        nothing : (one : Bool) → (one && false) ≡ false
        nothing true = refl
        nothing false = refl
