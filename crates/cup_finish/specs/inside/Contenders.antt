-- A club of a group that has ended, with what it is compared by, as the code keeps it.
use Rattle.std.specs.Prelude.{◌≡◌, ℕ, length}
use Rattle.league_core.specs.declared.sheet.Sheet.{Sheet}
use Rattle.league_core.specs.game.Results.{Results}
use Rattle.league_core.specs.search.Keys.{key_of}
use Rattle.club_keys.specs.inside.KeyEnds.{key_parts}
use Rattle.cup_sheet.specs.JointFinishes.{GroupState, number_in_cup}
use Rattle.cup_finish.specs.declared.contender.Contender.{Contender}

-- a group with its results, the first club of it having this number in the cup
abbrev pub group_state : ℕ → Sheet → Results → GroupState
group_state first sheet results = record {
  block = record { first = first; count = length sheet.clubs };
  sheet = sheet;
  results = results;
}

-- the contender is this club of the group, with its key
pub record IsContender (group : GroupState) (own : ℕ) (contender : Contender) : Type 0 where
  pub first : contender.first ≡ group.block.first
  pub club : contender.club ≡ number_in_cup group.block own
  pub key : key_parts contender.key ≡ key_of group.sheet group.results own
