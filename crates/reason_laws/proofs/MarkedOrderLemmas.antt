-- The order of the clubs at a member of a zone: who ranks before another has as many points or
-- more, and the zone's marks are so.
use Rattle.std.proofs.Common.{◌≡◌, ℕ, ◌≤ℤ◌, Bool, true, false, not, ◌&&◌, List, [], ◌∷◌, refl, sym}
use Rattle.std.proofs.Common.{ap, ◌∙◌, inl, inr}
use Rattle.std.proofs.lemmas.Bool.{false≢true, and_parts, or_cases, eqb-true}
use Rattle.league_core.specs.declared.sheet.Sheet.{Sheet}
use Rattle.league_core.specs.declared.zone.Test.{Test}
use Rattle.league_core.specs.declared.zone.Test.TheVariants.{Home, Draw, HomeMost, AwayMost, Rival}
use Rattle.league_core.specs.declared.zone.Literal.{Literal}
use Rattle.league_core.specs.game.Results.{Results}
use Rattle.league_core.specs.game.Sums.{points_of}
use Rattle.league_core.specs.game.Ranking.{ranks_before}
use Rattle.league_core.specs.search.Zones.{is_of_rival, is_test_true, is_as_said, is_literal_true}
use Rattle.league_core.specs.search.Zones.{are_literals_true, marked_before, marked_after}
use Rattle.league_core.proofs.plain.Orderings.{not_less-first}

pub points_not_before : (sheet : Sheet) (finish : Results) (lots : List ℕ) (club other : ℕ)
    → ranks_before sheet finish lots club other ≡ false
    → points_of sheet finish club ≤ℤ points_of sheet finish other
points_not_before sheet finish lots club other not_before =
    not_less-first (points_of sheet finish club) (points_of sheet finish other) _ not_before

-- the test of a rival is whether it ranks before the club
pub rival_at : (sheet : Sheet) (club : ℕ) (finish : Results) (lots : List ℕ) (rival : ℕ)
    (test : Test)
    → is_of_rival rival test ≡ true
    → is_test_true sheet club finish lots test ≡ ranks_before sheet finish lots rival club
rival_at sheet club finish lots rival (Home f) is = absurd (false≢true is)
rival_at sheet club finish lots rival (Draw f) is = absurd (false≢true is)
rival_at sheet club finish lots rival (HomeMost f most) is = absurd (false≢true is)
rival_at sheet club finish lots rival (AwayMost f most) is = absurd (false≢true is)
rival_at sheet club finish lots rival (Rival other) is =
    ap (λ n. ranks_before sheet finish lots n club) (eqb-true other rival is)

-- a rival that is marked before the club ranks before it, and one that is marked after does not
pub before_is : (sheet : Sheet) (club : ℕ) (finish : Results) (lots : List ℕ) (zone : List Literal)
    (rival : ℕ) → are_literals_true sheet club finish lots zone ≡ true
    → marked_before zone rival ≡ true → ranks_before sheet finish lots rival club ≡ true
before_is sheet club finish lots [] rival literals marked = absurd (false≢true marked)
before_is sheet club finish lots (literal ∷ zone) rival literals marked =
    let holds = and_parts (is_literal_true sheet club finish lots literal) (are_literals_true sheet
    club finish lots zone) literals in
    elim (or_cases (is_of_rival rival literal.test && literal.yes)
    (marked_before zone rival) marked) as (λ _. ranks_before sheet finish lots rival club ≡ true) [
      | inl here ↦
          let parts = and_parts (is_of_rival rival literal.test) literal.yes here in
          sym (rival_at sheet club finish lots rival literal.test parts.0)
          ∙ sym (ap (λ b. is_as_said b (is_test_true sheet club finish lots literal.test)) parts.1)
          ∙ holds.0
      | inr later ↦ before_is sheet club finish lots zone rival holds.1 later
    ]

pub after_is : (sheet : Sheet) (club : ℕ) (finish : Results) (lots : List ℕ) (zone : List Literal)
    (rival : ℕ) → are_literals_true sheet club finish lots zone ≡ true
    → marked_after zone rival ≡ true → ranks_before sheet finish lots rival club ≡ false
after_is sheet club finish lots [] rival literals marked = absurd (false≢true marked)
after_is sheet club finish lots (literal ∷ zone) rival literals marked =
    let holds = and_parts (is_literal_true sheet club finish lots literal) (are_literals_true sheet
    club finish lots zone) literals in
    elim (or_cases (is_of_rival rival literal.test && not literal.yes)
    (marked_after zone rival) marked) as (λ _. ranks_before sheet finish lots rival club ≡ false) [
      | inl here ↦
          let parts = and_parts (is_of_rival rival literal.test) (not literal.yes) here in
          sym (rival_at sheet club finish lots rival literal.test parts.0)
          ∙ said_no literal.yes (is_test_true sheet club finish lots literal.test) parts.1 holds.0
      | inr later ↦ after_is sheet club finish lots zone rival holds.1 later
    ]
  where
    said_no : (yes_said passed : Bool) → not yes_said ≡ true → is_as_said yes_said passed ≡ true
        → passed ≡ false
    said_no true passed negated holds = absurd (false≢true negated)
    said_no false true negated holds = absurd (false≢true holds)
    said_no false false negated holds = refl
