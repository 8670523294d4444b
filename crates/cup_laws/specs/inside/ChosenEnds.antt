-- How ends of the groups that were chosen one by one make a joint finish of the cup. The statement
-- is the contract of a function of src/laws.rt that does nothing.
use Rattle.std.specs.Prelude.{◌≡◌, ℕ, ◌+◌, IsTrue, List, [], ◌∷◌, length, map, IsPermutation}
use Rattle.league_core.specs.declared.sheet.Sheet.{Sheet}
use Rattle.league_core.specs.game.Finishes.{IsFinishOf}
use Rattle.league_core.specs.game.Ranking.{are_lots}
use Rattle.league_core.specs.game.Results.{Results}
use Rattle.cup_sheet.specs.declared.cup.Cup.{Cup}
use Rattle.cup_sheet.specs.JointFinishes.{IsJointFinish}
use Rattle.cup_sheet.specs.LotLaws.{GroupLots, own_lots, candidates_of, joined_lots, AgreeWith}

-- how a group ends, and lots of its clubs
pub record ChosenEnd : Type 0 where
  pub finish : Results
  pub lots : GroupLots

-- one end of each group, the first club of the first of them having this number in the cup
abbrev pub AreChosen : ℕ → List Sheet → List Results → List ChosenEnd → Type 0
AreChosen first [] [] [] = Unit {0}
AreChosen first (group ∷ groups) (season ∷ seasons) (end ∷ ends) =
    (end.lots.block ≡ record { first = first; count = length group.clubs })
    × IsFinishOf group season end.finish
    × IsTrue (are_lots (length group.clubs) (own_lots end.lots))
    × AreChosen (first + length group.clubs) groups seasons ends
AreChosen _ _ _ _ = ⊥

-- how the groups end
abbrev pub finishes_of_ends : List ChosenEnd → List Results
finishes_of_ends ends = map (λ (end : ChosenEnd). end.finish) ends

-- the lots of the groups
abbrev pub lots_of_ends : List ChosenEnd → List GroupLots
lots_of_ends ends = map (λ (end : ChosenEnd). end.lots) ends

-- ends of all groups and any order of their candidates make a joint finish, which agrees with them
abbrev pub ChosenEndsAreJoint : Type 0
ChosenEndsAreJoint =
    (cup : Cup) (seasons : List Results) (ends : List ChosenEnd) (order : List ℕ)
    → AreChosen 0 cup.groups seasons ends
    → IsPermutation (candidates_of (lots_of_ends ends)) order
    → IsJointFinish cup seasons (finishes_of_ends ends) (joined_lots (lots_of_ends ends) order)
    × AgreeWith (lots_of_ends ends) order (joined_lots (lots_of_ends ends) order)
