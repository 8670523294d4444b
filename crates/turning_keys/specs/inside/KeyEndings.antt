-- What the search for a turning key comes to.
use Rattle.std.specs.Prelude.{◌≡◌, ℕ, ℤ, List, Option, Some, None}
use Rattle.league_core.specs.declared.sheet.Sheet.{Sheet}
use Rattle.league_core.specs.declared.question.Claim.{Claim}
use Rattle.league_core.specs.game.Results.{Results}
use Rattle.league_core.specs.search.Keys.{key_of}
use Rattle.club_keys.specs.inside.KeyEnds.{key_parts}
use Rattle.tree_arena.specs.declared.example.Example.{Example}
use Rattle.depth_search.specs.declared.kind.CaseNode.{CaseNode}
use Rattle.cup_sheet.specs.declared.question.GroupReason.{GroupReason}
use Rattle.cup_sheet.specs.CupLimits.{direct_places}
use Rattle.cup_sheet.specs.KeyBounds.{far_key, CanBeCandidateWith, IsTurningKey, IsAskedOfClub}
use Rattle.cup_groups.specs.declared.question.KindQuestion.{KindQuestion}
use Rattle.group_search.specs.inside.GroupLooks.{IsGroupExampleOf}
use Rattle.group_search.specs.inside.GroupTasks.{IsGroupRefutedBy, IsGroupSpentOn}
use Rattle.cup_groups.specs.inside.KindQuestions.{group_question_of}
use Rattle.turning_keys.specs.inside.TurningQuestions.{halving_question, nearer_question}
use Rattle.turning_keys.specs.declared.turning.KeyEnd.{KeyEnd}
use Rattle.turning_keys.specs.declared.turning.KeyEnd.TheVariants.{Found, Spent}

-- an example with just this key; without one the club cannot be the candidate with any key, and
-- this is the key that is beyond all
abbrev pub IsExampleAt : Sheet → Results → Claim → ℕ → List ℤ → Option Example → Type 0
IsExampleAt sheet season claim club key None =
    ((other : List ℤ) → ¬ CanBeCandidateWith direct_places sheet season club other)
    × (key ≡ far_key claim)
IsExampleAt sheet season claim club key (Some example) =
    IsGroupExampleOf sheet season (halving_question claim club key) example
    × (key_of sheet example.finish club ≡ key)

-- the turning key, what shows that it is one, and that no key is farther in
pub record IsFoundKey (sheet : Sheet) (season : Results) (claim : Claim) (club : ℕ)
    (key : List ℤ) (example : Option Example) (nodes : List (CaseNode GroupReason))
    : Type 0 where
  pub turning : IsTurningKey direct_places sheet season claim club key
  pub shown : IsExampleAt sheet season claim club key example
  pub refuted : IsGroupRefutedBy sheet season (nearer_question claim club key) sheet.budget nodes

-- a question on the way to the turning key, and a tree on which the budget was spent
pub record IsSpentKey (sheet : Sheet) (season : Results) (claim : Claim) (club : ℕ)
    (question : KindQuestion) (nodes : List (CaseNode GroupReason)) : Type 0 where
  pub key : List ℤ
  pub turning : IsTurningKey direct_places sheet season claim club key
  pub asked : IsAskedOfClub sheet season claim club key (group_question_of question)
  pub tree : IsGroupSpentOn sheet season (group_question_of question) sheet.budget nodes

-- the one or the other
abbrev pub IsKeyEnd : Sheet → Results → Claim → ℕ → KeyEnd → Type 0
IsKeyEnd sheet season claim club (Found key example nodes) =
    IsFoundKey sheet season claim club (key_parts key) example nodes.items
IsKeyEnd sheet season claim club (Spent question nodes) =
    IsSpentKey sheet season claim club question nodes.items
