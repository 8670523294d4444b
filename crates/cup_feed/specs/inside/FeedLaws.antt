-- What a cup's feed comes to in its groups: each statement is the contract of a function of
-- src/laws.rt that does nothing.
use Rattle.std.specs.Prelude.{◌≡◌, ◌<◌, ℕ, IsTrue, List, All}
use Rattle.league_core.specs.declared.season.Event.{Event}
use Rattle.league_core.specs.game.Results.{Results, are_results}
use Rattle.league_core.specs.game.Seasons.{AreEventsOf}
use Rattle.cup_sheet.specs.declared.cup.Cup.{Cup}
use Rattle.cup_sheet.specs.Cups.{AreSeasonsOf}
use Rattle.cup_sheet.specs.CupFeeds.{joint_sheet, seasons_after}
use Rattle.cup_sheet.specs.JointFinishes.{ClubBlock, is_in_block, number_in_cup, number_in_group}

-- after any events each group has a season of its own
abbrev pub GroupsHaveSeasonsAfter : Type 0
GroupsHaveSeasonsAfter =
    (cup : Cup) (events : List Event) → AreSeasonsOf cup.groups (seasons_after cup events)

-- after events of the joint sheet their scores and deductions are such as may be
abbrev pub GroupResultsMayBe : Type 0
GroupResultsMayBe =
    (cup : Cup) (events : List Event) → AreEventsOf (joint_sheet cup) events
    → All (λ (season : Results). IsTrue (are_results season)) (seasons_after cup events)

-- a club of a group has a number in the cup, and by it has its number in the group again
abbrev pub NumbersComeBack : Type 0
NumbersComeBack =
    (block : ClubBlock) (own : ℕ) → own < block.count
    → IsTrue (is_in_block block (number_in_cup block own))
    × (number_in_group block (number_in_cup block own) ≡ own)

-- a club of the cup that is one of a group has a number in the group, and by it its number in the
-- cup again
abbrev pub CupNumbersComeBack : Type 0
CupNumbersComeBack =
    (block : ClubBlock) (club : ℕ) → IsTrue (is_in_block block club)
    → (number_in_group block club < block.count)
    × (number_in_cup block (number_in_group block club) ≡ club)
