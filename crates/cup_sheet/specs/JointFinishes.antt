-- How a cup may end: each of its groups finishes as it may, and lots are drawn once for all clubs
-- of the cup. The clubs of a group follow one another in the numbers of the cup; in the group they
-- are counted from 0.
use Rattle.std.specs.Prelude.{ℕ, ◌+◌, ◌-◌, Bool, ◌&&◌, nat_le, nat_lt, IsTrue, List, [], ◌∷◌}
use Rattle.std.specs.Prelude.{length, map, filter}
use Rattle.league_core.specs.declared.sheet.Sheet.{Sheet}
use Rattle.league_core.specs.game.Results.{Results}
use Rattle.league_core.specs.game.Ranking.{are_lots}
use Rattle.league_core.specs.game.Finishes.{IsFinishOf}
use Rattle.cup_sheet.specs.declared.cup.Cup.{Cup}
use Rattle.cup_sheet.specs.Cups.{clubs_together}

-- the clubs of a group among those of the cup: so many from one number on
pub record ClubBlock : Type 0 where
  pub first : ℕ
  pub count : ℕ

-- the club of the cup is one of the group
abbrev pub is_in_block : ClubBlock → ℕ → Bool
is_in_block block club = nat_le block.first club && nat_lt club (block.first + block.count)

-- a club of the group by its number in the cup
abbrev pub number_in_cup : ClubBlock → ℕ → ℕ
number_in_cup block club = block.first + club

-- a club of the group by its number there
abbrev pub number_in_group : ClubBlock → ℕ → ℕ
number_in_group block club = club - block.first

-- the lots of the cup within a group: its clubs in their order, by their numbers in the group
abbrev pub lots_within : ClubBlock → List ℕ → List ℕ
lots_within block lots = map (number_in_group block) (filter (is_in_block block) lots)

-- a group with what has been played of it, or with how it ends
pub record GroupState : Type 0 where
  pub block : ClubBlock
  pub sheet : Sheet
  pub results : Results

-- the groups in the order of the sheet with these results, the first club of them having this
-- number in the cup; a group without results, or results without a group, is left out
abbrev pub states_from : ℕ → List Sheet → List Results → List GroupState
states_from first [] results = []
states_from first (group ∷ groups) [] = []
states_from first (group ∷ groups) (own ∷ results) =
    record {
      block = record { first = first; count = length group.clubs };
      sheet = group;
      results = own;
    }
    ∷ states_from (first + length group.clubs) groups results

-- the groups of the cup with these results
abbrev pub states_of : Cup → List Results → List GroupState
states_of cup results = states_from 0 cup.groups results

-- each group finishes as it may, and there is one finish for each
abbrev pub AreFinishesOf : List Sheet → List Results → List Results → Type 0
AreFinishesOf [] [] [] = Unit {0}
AreFinishesOf (group ∷ groups) (season ∷ seasons) (finish ∷ finishes) =
    IsFinishOf group season finish × AreFinishesOf groups seasons finishes
AreFinishesOf _ _ _ = ⊥

-- a joint finish: a finish of each group's season, and lots of all clubs of the cup
pub record IsJointFinish (cup : Cup) (seasons finishes : List Results) (lots : List ℕ)
    : Type 0 where
  pub each : AreFinishesOf cup.groups seasons finishes
  pub drawn : IsTrue (are_lots (clubs_together cup.groups) lots)
