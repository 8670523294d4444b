-- No question is without an answer: if it has no example there is a tree that refutes it, and if it
-- has one the search can come to one. Each statement is the contract of a function of
-- src/completeness.rt that does nothing. Both rest on weights: if no reason holds in a zone and its
-- proposed finish is no example, the zone is not single, so that a proper split is due, and each
-- half weighs less than the zone.
use Rattle.std.specs.Prelude.{◌≡◌, ◌⊎◌, ℕ, Bool, false, IsTrue, List, []}
use Rattle.league_core.specs.declared.sheet.Sheet.{Sheet}
use Rattle.league_core.specs.declared.question.Question.{Question}
use Rattle.league_core.specs.declared.zone.Test.{Test}
use Rattle.league_core.specs.declared.zone.Literal.{Literal}
use Rattle.league_core.specs.game.Results.{Results, are_results}
use Rattle.league_core.specs.game.Seasons.{IsSeasonOf, IsLeague}
use Rattle.league_core.specs.game.Questions.{IsExample, IsQuestionOf}
use Rattle.league_core.specs.game.Verdicts.{HasExample, HasNoExample}
use Rattle.league_core.specs.search.Zones.{with_test}
use Rattle.league_core.specs.search.Options.{has_finish, is_single}
use Rattle.league_core.specs.search.Proposals.{proposed_finish}
use Rattle.league_core.specs.search.Splits.{IsFairSplit, is_proper, is_due}
use Rattle.league_core.specs.search.Trees.{Tree}
use Rattle.cert_text.specs.TreeLines.{IsRefutationTree}

-- a zone with a finish in which some fixture has several scores left can be split: some test is
-- proper and due there
abbrev pub SomeSplitIsDue : Type 0
SomeSplitIsDue =
    (sheet : Sheet) (season : Results) (question : Question) (zone : List Literal)
    → IsSeasonOf sheet season → IsTrue (has_finish sheet season zone)
    → is_single sheet season zone ≡ false
    → (test : Test) × IsTrue (is_proper sheet season question zone test)
    × IsTrue (is_due sheet season question zone test)

-- some tree refutes the question
abbrev pub HasRefutation : Sheet → Results → Question → Type 0
HasRefutation sheet season question =
    (tree : Tree) × IsRefutationTree sheet season question tree

-- each question has an example or a refutation
abbrev pub QuestionsAreDecided : Type 0
QuestionsAreDecided =
    (sheet : Sheet) (season : Results) (question : Question) → IsLeague sheet season
    → IsTrue (are_results season) → IsQuestionOf sheet question
    → HasExample sheet season question ⊎ HasRefutation sheet season question

-- so a question that has no example has a refutation
abbrev pub QuestionsAreRefuted : Type 0
QuestionsAreRefuted =
    (sheet : Sheet) (season : Results) (question : Question) → IsLeague sheet season
    → IsTrue (are_results season) → IsQuestionOf sheet question
    → HasNoExample sheet season question → HasRefutation sheet season question

-- the search can meet an example in a zone: the proposed finish is one, or it can meet one in one
-- of the halves by a split that is one unit of work
pub data CanBeMet (sheet : Sheet) (season : Results) (question : Question)
    : List Literal → Type 0 where
  at_once : (zone : List Literal) (lots : List ℕ)
      → IsExample sheet season question (proposed_finish sheet season question zone) lots
      → CanBeMet sheet season question zone
  in_a_half : (zone : List Literal) (test : Test) (holds : Bool)
      → IsFairSplit sheet season question zone test
      → CanBeMet sheet season question (with_test zone test holds)
      → CanBeMet sheet season question zone

-- a question that has an example has one that the search can meet from its root on
abbrev pub ExamplesCanBeMet : Type 0
ExamplesCanBeMet =
    (sheet : Sheet) (season : Results) (question : Question) → IsLeague sheet season
    → IsQuestionOf sheet question → HasExample sheet season question
    → CanBeMet sheet season question []
