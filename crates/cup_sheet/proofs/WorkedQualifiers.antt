-- Worked joint finishes, computed by the definitions: who qualifies in a cup of two groups of
-- three, of whose runners-up one does.
use Rattle.std.proofs.Common.{◌≡◌, ℕ, Bool, true, false, List, [], ◌∷◌, Some, map, codes, refl}
use Rattle.league_core.specs.declared.season.Event.{Event}
use Rattle.league_core.specs.declared.season.Event.TheVariants.{Set, Deduct}
use Rattle.league_core.specs.game.Results.{Results}
use Rattle.cup_sheet.specs.declared.cup.Cup.{Cup}
use Rattle.cup_sheet.specs.CupFeeds.{seasons_after}
use Rattle.cup_sheet.specs.Qualifying.{qualifies_at}
use Rattle.cup_sheet.proofs.WorkedCups.{mini_cup, group_as, club_as}

-- three matches, the home side's goals and the away side's
abbrev pub scores_as : ℕ → ℕ → ℕ → ℕ → ℕ → ℕ → Results
scores_as a b c d e f = record {
  scores =
      Some (record { home = a; away = b }) ∷ Some (record { home = c; away = d })
      ∷ Some (record { home = e; away = f }) ∷ [];
  deductions = 0 ∷ 0 ∷ 0 ∷ [];
}

-- the first group as it ended, and these scores of the second group's last match
abbrev pub ends_with : ℕ → ℕ → List Results
ends_with home away = scores_as 1 0 1 0 2 0 ∷ scores_as 1 0 1 0 home away ∷ []

-- a result of a fixture by its number in the cup
abbrev pub result_as : ℕ → ℕ → ℕ → Event
result_as fixture home away = Set fixture (record { home = home; away = away })

-- the feed of these results, a fixture of the second group first, and points taken off F
pub feed_by_group : seasons_after (mini_cup 1)
    (result_as 5 3 0 ∷ result_as 0 1 0 ∷ result_as 1 1 0 ∷ result_as 2 2 0 ∷ result_as 3 1 0
    ∷ result_as 4 1 0 ∷ Deduct 5 2 ∷ [])
    ≡ scores_as 1 0 1 0 2 0
    ∷ record (scores_as 1 0 1 0 3 0) { deductions = 0 ∷ 0 ∷ 2 ∷ [] } ∷ []
feed_by_group = refl

-- which of the six clubs qualify
abbrev pub who : Cup → List Results → List ℕ → List Bool
who cup finishes lots =
    map (qualifies_at cup finishes lots) (0 ∷ 1 ∷ 2 ∷ 3 ∷ 4 ∷ 5 ∷ [])

-- lots in the order of the sheet
abbrev pub forwards : List ℕ
forwards = 0 ∷ 1 ∷ 2 ∷ 3 ∷ 4 ∷ 5 ∷ []

-- the other way round
abbrev pub backwards : List ℕ
backwards = 5 ∷ 4 ∷ 3 ∷ 2 ∷ 1 ∷ 0 ∷ []

-- both runners-up have three points, B a difference of 1 and E one of 0
pub by_difference : who (mini_cup 1) (ends_with 1 0) backwards
    ≡ true ∷ true ∷ false ∷ true ∷ false ∷ false ∷ []
by_difference = refl

-- at 3:0 E has a difference of 2, and at 0:3 F has; a draw leaves B the better
pub last_match :
    (who (mini_cup 1) (ends_with 3 0) forwards
    ≡ true ∷ false ∷ false ∷ true ∷ true ∷ false ∷ [])
    × (who (mini_cup 1) (ends_with 0 3) forwards
    ≡ true ∷ false ∷ false ∷ true ∷ false ∷ true ∷ [])
    × (who (mini_cup 1) (ends_with 2 2) forwards
    ≡ true ∷ true ∷ false ∷ true ∷ false ∷ false ∷ [])
last_match = (refl, refl, refl)

-- two groups that are alike, ranks and all
abbrev pub twin_cup : Cup
twin_cup = record {
  name = codes "Twins";
  groups =
      group_as (codes "One") (club_as (codes "A") 1 ∷ club_as (codes "B") 2
      ∷ club_as (codes "C") 3 ∷ [])
      ∷ group_as (codes "Two") (club_as (codes "D") 1 ∷ club_as (codes "E") 2
      ∷ club_as (codes "F") 3 ∷ [])
      ∷ [];
  quota = 1;
}

-- with one key the lots decide
pub by_lots :
    (who twin_cup (ends_with 2 0) forwards ≡ true ∷ true ∷ false ∷ true ∷ false ∷ false ∷ [])
    × (who twin_cup (ends_with 2 0) backwards ≡ true ∷ false ∷ false ∷ true ∷ true ∷ false ∷ [])
by_lots = (refl, refl)
