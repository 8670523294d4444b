-- What an answer says of a club of a cup: a word, and what shows it. A club that is neither
-- clinched nor lost is possible if a joint finish shows each side, and unsettled if the budget was
-- spent on a question on the way to one side or to both. How these are written as lines is fixed
-- elsewhere.
use Rattle.std.specs.Prelude.{◌≡◌, ◌<◌, ◌≤◌, ℕ, ◌+◌, ◌-◌, ℤ, Bool, true, false, not, ◌||◌, ◌==◌}
use Rattle.std.specs.Prelude.{IsTrue, List, [], ◌∷◌, length, Contains, All, slice_get, Some}
use Rattle.league_core.specs.declared.question.Claim.{Claim}
use Rattle.league_core.specs.declared.question.Claim.TheVariants.{Inside, Outside}
use Rattle.league_core.specs.game.Results.{Results}
use Rattle.cup_sheet.specs.declared.cup.Cup.{Cup}
use Rattle.cup_sheet.specs.CupLimits.{direct_places}
use Rattle.cup_sheet.specs.JointFinishes.{GroupState, number_in_cup, states_of, IsJointFinish}
use Rattle.cup_sheet.specs.Qualifying.{qualifies_at}
use Rattle.cup_sheet.specs.GroupQuestions.{GroupQuestion}
use Rattle.cup_sheet.specs.GroupTrees.{GroupTree, are_all_new, IsGroupRefutation}
use Rattle.cup_sheet.specs.GroupTrees.{IsFairlySpentGroupTree}
use Rattle.cup_sheet.specs.KeyBounds.{IsAskedOnTheWay, place_kind, nearer_kind, others_kind}

-- the group is one of the cup's, with its season, and the club, by its number there, is the club of
-- the cup
pub record IsClubOf (cup : Cup) (seasons : List Results) (club : ℕ) (group : GroupState) (own : ℕ)
    : Type 0 where
  pub group_of : Contains (states_of cup seasons) group
  pub own_club : own < length group.sheet.clubs
  pub number : club ≡ number_in_cup group.block own

-- ---- a side is shown

-- whether a club that qualifies is on this side
abbrev pub qualifies_on : Claim → Bool
qualifies_on Inside = true
qualifies_on Outside = false

-- a joint finish at which the club is on this side
pub record IsCupExample (cup : Cup) (seasons : List Results) (claim : Claim) (club : ℕ)
    (finishes : List Results) (lots : List ℕ) : Type 0 where
  pub joint : IsJointFinish cup seasons finishes lots
  pub on_side : qualifies_at cup finishes lots club ≡ qualifies_on claim

-- ---- a side is not settled

-- the budget was spent on a question about a group that is on the way to this side, and the tree,
-- all of it new, shows it
pub record IsCupSpent (cup : Cup) (seasons : List Results) (claim : Claim) (club : ℕ)
    (group : GroupState) (question : GroupQuestion) (tree : GroupTree) : Type 0 where
  pub mine : GroupState
  pub own : ℕ
  pub of_club : IsClubOf cup seasons club mine own
  pub group_of : Contains (states_of cup seasons) group
  pub on_the_way : IsAskedOnTheWay direct_places claim mine own group question
  pub tree_spent : IsFairlySpentGroupTree direct_places group.sheet group.results question
      group.sheet.budget tree
  pub all_new : IsTrue (are_all_new tree)

-- some joint finish shows the side
abbrev pub HasCupExample : Cup → List Results → Claim → ℕ → Type 0
HasCupExample cup seasons claim club =
    (finishes : List Results) × (lots : List ℕ)
    × IsCupExample cup seasons claim club finishes lots

-- some tree shows that the budget was spent on the way to it
abbrev pub HasCupSpent : Cup → List Results → Claim → ℕ → Type 0
HasCupSpent cup seasons claim club =
    (group : GroupState) × (question : GroupQuestion) × (tree : GroupTree)
    × IsCupSpent cup seasons claim club group question tree

-- what stands for a side: if the budget was spent a tree, otherwise a joint finish
abbrev pub HasCupPart : Cup → List Results → Claim → ℕ → Bool → Type 0
HasCupPart cup seasons claim club true = HasCupSpent cup seasons claim club
HasCupPart cup seasons claim club false = HasCupExample cup seasons claim club

-- unsettled: what stands for each side, at least once a tree
abbrev pub IsUnsettledInCup : Cup → List Results → ℕ → Type 0
IsUnsettledInCup cup seasons club =
    (is_inside_spent : Bool) × (is_outside_spent : Bool)
    × IsTrue (is_inside_spent || is_outside_spent)
    × HasCupPart cup seasons Inside club is_inside_spent
    × HasCupPart cup seasons Outside club is_outside_spent

-- ---- a side is refuted

-- how many other groups have to be shown to have no candidate on the turning key's far side: as
-- many as leave fewer than are needed
abbrev pub listed_groups : Cup → Claim → ℕ
listed_groups cup Outside = length cup.groups - cup.quota
listed_groups cup Inside = cup.quota

-- how many other groups have to have a candidate there for the club to be on its side with that key
abbrev pub shown_groups : Cup → Claim → ℕ
shown_groups cup Outside = cup.quota
shown_groups cup Inside = length cup.groups - cup.quota

-- a tree refutes the question about the group
abbrev pub IsRefutedInGroup : GroupState → GroupQuestion → Type 0
IsRefutedInGroup group question =
    (tree : GroupTree)
    × IsGroupRefutation direct_places group.sheet group.results question tree

-- no club of the group can be its candidate on the far side of the key
abbrev pub IsRefutedForAll : Claim → List ℤ → GroupState → Type 0
IsRefutedForAll claim key group =
    (other : ℕ) → other < length group.sheet.clubs
    → IsRefutedInGroup group (record { kind = others_kind claim; club = other; key = key })

-- each number of the list is at least the bound, and greater than the one before it
abbrev pub AreRising : ℕ → List ℕ → Type 0
AreRising least [] = Unit {0}
AreRising least (number ∷ numbers) = (least ≤ number) × AreRising (number + 1) numbers

-- the number is that of another group, none of whose clubs can be its candidate so
abbrev pub IsListedGroup : Cup → List Results → Claim → GroupState → List ℤ → ℕ → Type 0
IsListedGroup cup seasons claim mine key number =
    (group : GroupState) × (slice_get (states_of cup seasons) number ≡ Some group)
    × IsTrue (not (group.block.first == mine.block.first))
    × IsRefutedForAll claim key group

-- what is written to show that the club cannot be on this side: a key; a list of other groups by
-- their numbers; and refutations of the question about its place, of that about a key before this
-- one, and of those about each club of the listed groups
pub record IsCupRefuted (cup : Cup) (seasons : List Results) (claim : Claim) (club : ℕ)
    (key : List ℤ) (listed : List ℕ) : Type 0 where
  pub mine : GroupState
  pub own : ℕ
  pub of_club : IsClubOf cup seasons club mine own
  pub place : IsRefutedInGroup mine
      (record { kind = place_kind claim; club = own; key = [] })
  pub nearer : IsRefutedInGroup mine
      (record { kind = nearer_kind claim; club = own; key = key })
  pub count : length listed ≡ listed_groups cup claim
  pub rising : AreRising 0 listed
  pub others : All (IsListedGroup cup seasons claim mine key) listed
