-- What the search for a turning key comes to, in the words of its contract.
use Rattle.std.proofs.Common.{◌≡◌, ℕ, ◌<◌, List, length, sym, subst, inl, inr}
use Rattle.league_core.specs.declared.sheet.Sheet.{Sheet}
use Rattle.league_core.specs.declared.question.Claim.{Claim}
use Rattle.league_core.specs.game.Results.{Results}
use Rattle.tree_arena.specs.declared.example.Example.{Example}
use Rattle.depth_search.specs.declared.kind.CaseNode.{CaseNode}
use Rattle.cup_sheet.specs.declared.question.GroupReason.{GroupReason}
use Rattle.cup_sheet.specs.GroupQuestions.{GroupQuestion}
use Rattle.cup_sheet.specs.KeyBounds.{far_key}
use Rattle.cup_groups.specs.declared.question.KindQuestion.{KindQuestion}
use Rattle.group_search.specs.inside.GroupTasks.{IsGroupSpentOn}
use Rattle.cup_groups.specs.inside.KindQuestions.{group_question_of}
use Rattle.turning_keys.specs.declared.halve.SpentOn.{SpentOn}
use Rattle.turning_keys.specs.inside.KeyEndings.{IsSpentKey}
use Rattle.turning_keys.specs.inside.TurningQuestions.{halving_question}
use Rattle.turning_keys.specs.inside.TurningSearches.{IsCandidateAt, IsSpentHalfway}
use Rattle.turning_keys.proofs.ReachedLemmas.{nearest_exists}
use Rattle.turning_keys.proofs.TurningKeyLemmas.{turning_key_exists}

module _ (sheet : Sheet) (season : Results) (claim : Claim) (club : ℕ)
    (below : club < length sheet.clubs) where
  -- the budget was spent on a question about a middle
  pub spent_on_the_way : (example : Example) → IsCandidateAt sheet season club example
      → (spent : SpentOn) → IsSpentHalfway sheet season claim club spent
      → IsSpentKey sheet season claim club spent.question spent.nodes.items
  spent_on_the_way example candidate spent halfway =
      let some = nearest_exists sheet season club below claim example candidate in
      record {
        key = some.0;
        turning = inl some.1;
        asked = inr (inr (inl (halfway.key, halfway.halfway some.0 some.1, halfway.question)));
        tree =
            subst (λ (it : GroupQuestion). IsGroupSpentOn sheet season it sheet.budget
            spent.nodes.items) (sym halfway.question) halfway.tree;
      }

  -- or on the first question
  pub spent_at_first : (question : KindQuestion) (nodes : List (CaseNode GroupReason))
      → group_question_of question ≡ halving_question claim club (far_key claim)
      → IsGroupSpentOn sheet season (group_question_of question) sheet.budget nodes
      → IsSpentKey sheet season claim club question nodes
  spent_at_first question nodes is tree =
      let some = turning_key_exists sheet season club below claim in
      record {
        key = some.0;
        turning = some.1;
        asked = inr (inl is);
        tree = tree;
      }
