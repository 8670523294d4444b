-- Lots of a whole cup from the lots of its groups, and back. Groups do not share a club, so their
-- lots and an order of their candidates never contradict each other. Each statement is the contract
-- of a function of src/lot_laws.rt that does nothing.
use Rattle.std.specs.Prelude.{◌≡◌, ◌≤◌, ℕ, ◌+◌, IsTrue, List, [], ◌∷◌, ◌++◌, map, IsPermutation}
use Rattle.std.specs.List.{flat_map}
use Rattle.std.specs.Ordering.{nat_cmp}
use Rattle.league_core.specs.game.Sums.{has_club}
use Rattle.league_core.specs.game.Ranking.{are_lots, lot_of}
use Rattle.cup_sheet.specs.JointFinishes.{ClubBlock, number_in_cup, lots_within}

-- lots of a group, cut at one of its clubs
pub record GroupLots : Type 0 where
  pub block : ClubBlock
  pub earlier : List ℕ
  pub candidate : ℕ
  pub later : List ℕ

-- the lots of a group
abbrev pub own_lots : GroupLots → List ℕ
own_lots it = it.earlier ++ it.candidate ∷ it.later

-- a part of the lots of each group, group by group, by the numbers in the cup
abbrev pub part_of_each : (GroupLots → List ℕ) → List GroupLots → List ℕ
part_of_each part groups = flat_map (λ it. map (number_in_cup it.block) (part it)) groups

-- the candidate of each group
abbrev pub candidates_of : List GroupLots → List ℕ
candidates_of groups = part_of_each (λ it. it.candidate ∷ []) groups

-- all that stand before the candidates, then these in an order, then all that stand after them
abbrev pub joined_lots : List GroupLots → List ℕ → List ℕ
joined_lots groups order =
    part_of_each (λ it. it.earlier) groups
    ++ (order ++ part_of_each (λ it. it.later) groups)

-- how many clubs the groups have together
abbrev pub lots_together : List GroupLots → ℕ
lots_together [] = 0
lots_together (it ∷ groups) = it.block.count + lots_together groups

-- the groups follow one another from a number on, each with lots of its clubs
abbrev pub AreLaid : ℕ → List GroupLots → Type 0
AreLaid from [] = Unit {0}
AreLaid from (it ∷ groups) =
    (it.block.first ≡ from) × IsTrue (are_lots it.block.count (own_lots it))
    × AreLaid (from + it.block.count) groups

-- within each group these lots are its own
abbrev pub AreWithin : List ℕ → List GroupLots → Type 0
AreWithin lots [] = Unit {0}
AreWithin lots (it ∷ groups) = (lots_within it.block lots ≡ own_lots it) × AreWithin lots groups

-- lots of the cup that agree with the lots of each group, and with the order of the candidates
pub record AgreeWith (groups : List GroupLots) (order lots : List ℕ) : Type 0 where
  pub drawn : IsTrue (are_lots (lots_together groups) lots)
  pub within : AreWithin lots groups
  pub ordered : (club other : ℕ) → IsTrue (has_club order club) → IsTrue (has_club order other)
      → nat_cmp (lot_of lots club) (lot_of lots other)
      ≡ nat_cmp (lot_of order club) (lot_of order other)

-- whatever the lots of the groups and the order of the candidates are, some lots agree with both
abbrev pub LotsCanBeJoined : Type 0
LotsCanBeJoined =
    (groups : List GroupLots) (order : List ℕ) → AreLaid 0 groups
    → IsPermutation (candidates_of groups) order
    → AgreeWith groups order (joined_lots groups order)

-- lots of the cup are, within each group, lots of its clubs
abbrev pub RestrictedLotsAreLots : Type 0
RestrictedLotsAreLots =
    (block : ClubBlock) (clubs : ℕ) (lots : List ℕ) → block.first + block.count ≤ clubs
    → IsTrue (are_lots clubs lots) → IsTrue (are_lots block.count (lots_within block lots))
