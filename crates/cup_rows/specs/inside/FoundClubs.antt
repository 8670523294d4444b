-- What is found of the clubs of a cup.
use Rattle.std.specs.Prelude.{◌≡◌, ◌<◌, ℕ, List, map, All}
use Rattle.std.specs.List.{range_with_len}
use Rattle.league_core.specs.game.Results.{Results}
use Rattle.cup_sheet.specs.declared.cup.Cup.{Cup}
use Rattle.cup_sheet.specs.Cups.{clubs_together}
use Rattle.runners_up.specs.inside.ClubFindings.{IsClubFinding}
use Rattle.cup_rows.specs.declared.found.FoundClub.{FoundClub}

-- the club is one of the cup, and what is found of it is so
pub record IsFoundClub (cup : Cup) (seasons : List Results) (found : FoundClub) : Type 0 where
  pub in_range : found.club < clubs_together cup.groups
  pub finding : IsClubFinding cup seasons found.club found.finding

-- the clubs, in their order
abbrev pub found_clubs : List FoundClub → List ℕ
found_clubs all = map (λ (found : FoundClub). found.club) all

-- one for each club of the cup, in the order of the cup
pub record AreFoundClubs (cup : Cup) (seasons : List Results) (all : List FoundClub) : Type 0 where
  pub clubs : found_clubs all ≡ range_with_len 0 (clubs_together cup.groups)
  pub each : All (IsFoundClub cup seasons) all
