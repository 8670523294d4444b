-- What is kept of a question over a change, or if a tree is handed in: the tree is good for the
-- season, and an example stays exactly where it is one.
use Rattle.std.proofs.Common.{◌≡◌, ℕ, true, [], Option}
use Rattle.std.proofs.Common.{Some, None, refl, sym, ◌∙◌, inl, inr, arith}
use Rattle.std.specs.Prelude.{IfSome}
use Rattle.std.proofs.lemmas.Bool.{false≢true, and_parts, and_from, cases_Bool}
use Rattle.std.proofs.lemmas.Slice.Eq.{bytes_eq-Decides}
use Rattle.league_core.specs.declared.sheet.Sheet.{Sheet}
use Rattle.league_core.specs.declared.question.Question.{Question}
use Rattle.league_core.specs.game.Results.{Results}
use Rattle.league_core.specs.game.Finishes.{IsFinishOf}
use Rattle.league_core.specs.search.Trees.{Tree}
use Rattle.league_core.specs.search.Splits.{IsProperNode}
use Rattle.league_core.proofs.TreeLemmas.{NodesMeet-weaker}
use Rattle.tree_reuse.specs.inside.RetargetLaws.{IsKeptNode}
use Rattle.tree_reuse.specs.Asked.{IsAskedTree}
use Rattle.tree_reuse.specs.Retargets.{retargeted}
use Rattle.tree_reuse.proofs.RetargetLemmas.{asked_good, proper_asked, lent_count-retargeted}
use Rattle.tree_reuse.proofs.RetargetLemmas.{new_count-retargeted, node_count-retargeted}
use Rattle.tree_arena.specs.declared.example.Example.{Example}
use Rattle.branch_pool.specs.declared.question_state.QuestionState.{QuestionState}
use Rattle.branch_pool.specs.inside.Steps.{may_end_as, example_kept, seat_changed}
use Rattle.tree_arena.specs.inside.GoodNodes.{IsGoodNode}
use Rattle.branch_pool.specs.inside.Goodness.{IsGoodSeat, IsExampleOf}

-- the test of a finish is the definition
pub ends_by_test : (sheet : Sheet) (season finish : Results)
    → may_end_as sheet season finish ≡ true → IsFinishOf sheet season finish
ends_by_test sheet season finish test =
    let parts = and_parts _ _ test in
    record {
      deductions = (bytes_eq-Decides finish.deductions season.deductions).0 parts.0;
      scores = parts.1;
    }

pub test_by_ends : (sheet : Sheet) (season finish : Results)
    → IsFinishOf sheet season finish → may_end_as sheet season finish ≡ true
test_by_ends sheet season finish is =
    and_from _ _ ((bytes_eq-Decides finish.deductions season.deductions).1 is.deductions) is.scores

-- an example that stays is one in the new season
pub example_kept_good : (sheet : Sheet) (before season : Results) (question : Question)
    (kept : Option Example) → IfSome kept (IsExampleOf sheet before question)
    → IfSome (example_kept sheet season kept) (IsExampleOf sheet season question)
example_kept_good sheet before season question None is = tt
example_kept_good sheet before season question (Some example) is =
    elim (cases_Bool (may_end_as sheet season example.finish)) as (λ _. IfSome
    (example_kept sheet season (Some example)) (IsExampleOf sheet season question)) [
      | inl ends ↦ rw ends (record {
        is_finish = ends_by_test sheet season example.finish ends;
        is_drawn = is.is_drawn;
        holds = is.holds;
      })
      | inr not ↦ rw not tt
    ]

-- it stays where it is one
pub example_stays : (sheet : Sheet) (season : Results) (question : Question) (example : Example)
    → IsExampleOf sheet season question example
    → example_kept sheet season (Some example) ≡ Some example
example_stays sheet season question example is =
    rw (test_by_ends sheet season example.finish is.is_finish) refl

-- a question with what a season leaves of a tree whose tests may be asked, with nothing lent
pub retargeted_good : (sheet : Sheet) (season : Results) (tree : Tree) (seat : QuestionState)
    (lent : ℕ) (example : Option Example) → IsAskedTree sheet seat.question tree → lent ≡ 0
    → IfSome example (IsExampleOf sheet season seat.question)
    → IsGoodSeat sheet season (record seat {
      tree = retargeted sheet season seat.question tree;
      units = 0;
      lent = lent;
      example = example;
    })
retargeted_good sheet season tree seat lent example asked none is = record {
  nodes = NodesMeet-weaker (IsKeptNode sheet season seat.question)
      (IsGoodNode sheet season seat.question)
      (λ zone node fact. record {
        proper = fact.proper;
        refuted = fact.reason;
        unit = λ new. absurd (false≢true (sym fact.not_new ∙ new));
      })
      (retargeted sheet season seat.question tree) []
      (asked_good sheet season seat.question tree asked);
  units = sym (new_count-retargeted sheet season seat.question tree);
  lent = none ∙ sym (lent_count-retargeted sheet season seat.question tree);
  within = omega (arith, none);
  few = (node_count-retargeted sheet season seat.question tree).1;
  example = is;
}

-- a question in a new season
pub seat_changed_good : (sheet : Sheet) (before season : Results) (seat : QuestionState)
    → IsGoodSeat sheet before seat → IsGoodSeat sheet season (seat_changed sheet season seat)
seat_changed_good sheet before season seat good =
    let proper = NodesMeet-weaker (IsGoodNode sheet before seat.question)
    (IsProperNode sheet before seat.question) (λ zone node fact. fact.proper) seat.tree []
    good.nodes in
    retargeted_good sheet season seat.tree seat 0 (example_kept sheet season seat.example)
    (proper_asked sheet before seat.question [] seat.tree proper) refl
    (example_kept_good sheet before season seat.question seat.example good.example)
