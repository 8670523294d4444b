-- Whether another group can have a candidate on the far side of a key: what is asked of each of its
-- clubs, and what that comes to.
use Rattle.std.specs.Prelude.{◌≡◌, ◌<◌, ℕ, ℤ, List, [], ◌∷◌, ◌++◌, length, slice_get, Option, Some}
use Rattle.std.specs.Prelude.{None, Vec}
use Rattle.std.specs.Global.{Global}
use Rattle.league_core.specs.declared.sheet.Sheet.{Sheet}
use Rattle.league_core.specs.declared.question.Claim.{Claim}
use Rattle.league_core.specs.game.Results.{Results}
use Rattle.tree_arena.specs.declared.example.Example.{Example}
use Rattle.depth_search.specs.declared.kind.CaseNode.{CaseNode}
use Rattle.depth_search.specs.declared.kind.SearchEnd.{SearchEnd}
use Rattle.depth_search.specs.declared.kind.SearchEnd.TheVariants as ends
use Rattle.cup_sheet.specs.declared.question.GroupReason.{GroupReason}
use Rattle.cup_sheet.specs.GroupQuestions.{GroupQuestion}
use Rattle.cup_sheet.specs.KeyBounds.{others_kind}
use Rattle.cup_groups.specs.declared.question.KindQuestion.{KindQuestion}
use Rattle.cup_groups.specs.inside.KindQuestions.{group_question_of}
use Rattle.group_search.specs.inside.GroupTasks.{IsGroupRefutedBy, IsGroupSpentOn}
use Rattle.runners_up.specs.declared.others.GroupAsked.{GroupAsked}
use Rattle.runners_up.specs.declared.others.GroupAsked.TheVariants.{Shown, Refuted, Spent}
use Rattle.runners_up.specs.declared.others.SpentQuestion.{SpentQuestion}
use Rattle.runners_up.specs.inside.JointEnds.{IsGroupEnd, HasFarCandidate}

-- the nodes of a tree
abbrev pub GroupNodes : Type 0
GroupNodes = Vec (CaseNode GroupReason) Global

-- what is asked of a club: whether it can be the candidate with a key on the far side
abbrev pub other_question : Claim → List ℤ → ℕ → GroupQuestion
other_question claim key club = record { kind = others_kind claim; club = club; key = key }

-- the nodes of a refutation for each of the first clubs, as many as there are
abbrev pub AreClubsRefuted : Sheet → Results → Claim → List ℤ
    → List GroupNodes → Type 0
AreClubsRefuted sheet season claim key trees =
    (club : ℕ) (nodes : GroupNodes) → slice_get trees club ≡ Some nodes
    → IsGroupRefutedBy sheet season (other_question claim key club) sheet.budget nodes.items

-- the budget was spent on the question about a club of the group
pub record IsSpentOnClub (sheet : Sheet) (season : Results) (claim : Claim) (key : List ℤ)
    (spent : SpentQuestion) : Type 0 where
  pub club : ℕ
  pub inside : club < length sheet.clubs
  pub question : group_question_of spent.question ≡ other_question claim key club
  pub tree : IsGroupSpentOn sheet season (other_question claim key club) sheet.budget
      spent.nodes.items

-- what the first clubs, so many, came to
abbrev pub IsAskedUpTo : Sheet → Results → Claim → List ℤ → ℕ
    → List GroupNodes → Option SpentQuestion → Type 0
IsAskedUpTo sheet season claim key count trees None =
    (length trees ≡ count) × AreClubsRefuted sheet season claim key trees
IsAskedUpTo sheet season claim key count trees (Some spent) =
    IsSpentOnClub sheet season claim key spent

-- one club more: an example is handed back, and another end is kept
abbrev pub IsClubNoted : KindQuestion → SearchEnd Example GroupReason
    → List GroupNodes → Option SpentQuestion
    → List GroupNodes → Option SpentQuestion → Option Example → Type 0
IsClubNoted question (ends.Won example) old old_spent new new_spent found =
    found ≡ Some example
IsClubNoted question (ends.Refuted nodes) old old_spent new new_spent found =
    (found ≡ None) × (new ≡ old ++ nodes ∷ []) × (new_spent ≡ old_spent)
IsClubNoted question (ends.Spent nodes) old old_spent new new_spent found =
    (found ≡ None) × (new_spent ≡ Some (record { question = question; nodes = nodes }))

-- all clubs together
abbrev pub asked_together : Vec GroupNodes Global → Option SpentQuestion → GroupAsked
asked_together trees None = Refuted trees
asked_together trees (Some spent) = Spent spent

-- an end with such a candidate, refutations for all clubs, or a question on which it was spent
abbrev pub IsGroupAsked : Sheet → Results → Claim → List ℤ → GroupAsked → Type 0
IsGroupAsked sheet season claim key (Shown end) =
    IsGroupEnd sheet season end × HasFarCandidate claim key sheet end
IsGroupAsked sheet season claim key (Refuted trees) =
    (length trees.items ≡ length sheet.clubs)
    × AreClubsRefuted sheet season claim key trees.items
IsGroupAsked sheet season claim key (Spent spent) = IsSpentOnClub sheet season claim key spent
