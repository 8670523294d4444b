-- The turning key of a club that plays in one of the groups.
use Rattle.std.specs.Prelude.{ℤ, List, Option}
use Rattle.league_core.specs.declared.sheet.Sheet.{Sheet}
use Rattle.league_core.specs.declared.question.Claim.{Claim}
use Rattle.league_core.specs.game.Results.{Results}
use Rattle.tree_arena.specs.declared.example.Example.{Example}
use Rattle.depth_search.specs.declared.kind.CaseNode.{CaseNode}
use Rattle.cup_sheet.specs.declared.cup.Cup.{Cup}
use Rattle.cup_sheet.specs.declared.question.GroupReason.{GroupReason}
use Rattle.group_search.specs.inside.GroupTasks.{IsGroupRefutedBy}
use Rattle.cup_groups.specs.declared.seat.ClubSeat.{ClubSeat}
use Rattle.runners_up.specs.inside.SidesByPlace.{IsOwnGroup, asked_of_place}
use Rattle.turning_keys.specs.declared.turning.KeyEnd.{KeyEnd}
use Rattle.turning_keys.specs.inside.KeyEndings.{IsKeyEnd, IsExampleAt}

-- the question about the club's place is refuted by the nodes
abbrev pub IsPlaceRefuted : Cup → List Results → ClubSeat → Claim → List (CaseNode GroupReason)
    → Type 0
IsPlaceRefuted cup seasons seat claim nodes =
    (sheet : Sheet) × (season : Results) × IsOwnGroup cup seasons seat sheet season
    × IsGroupRefutedBy sheet season (asked_of_place claim seat.own) sheet.budget nodes

-- what the search for the club's turning key comes to in its group
abbrev pub IsKeyOfSeat : Cup → List Results → ClubSeat → Claim → KeyEnd → Type 0
IsKeyOfSeat cup seasons seat claim end =
    (sheet : Sheet) × (season : Results) × IsOwnGroup cup seasons seat sheet season
    × IsKeyEnd sheet season claim seat.own end

-- the example is one of the club's group with just this key; without one the club cannot be the
-- candidate, and the key is the one beyond all
abbrev pub IsExampleOfSeat : Cup → List Results → ClubSeat → Claim → List ℤ → Option Example
    → Type 0
IsExampleOfSeat cup seasons seat claim key example =
    (sheet : Sheet) × (season : Results) × IsOwnGroup cup seasons seat sheet season
    × IsExampleAt sheet season claim seat.own key example
