-- Laws of lines: which trees have tests such as lines have, and that the lines of trees and of
-- examples are in the ranges of their forms.
use Rattle.std.specs.Prelude.{ℕ, IsTrue, List, []}
use Rattle.std.specs.List.{list_all}
use Rattle.league_core.specs.declared.sheet.Sheet.{Sheet}
use Rattle.league_core.specs.declared.question.Question.{Question}
use Rattle.league_core.specs.game.Results.{Results, are_results}
use Rattle.league_core.specs.game.Seasons.{IsLeague}
use Rattle.league_core.specs.game.Questions.{IsExample}
use Rattle.league_core.specs.search.Trees.{Tree, NodesMeet}
use Rattle.league_core.specs.search.Splits.{IsProperNode}
use Rattle.cert_text.specs.Ranges.{is_in_range}
use Rattle.cert_text.specs.TreeLines.{are_tests_for, IsRefutationTree, IsSpentTree, plain_lines}
use Rattle.cert_text.specs.TreeLines.{marked_lines}
use Rattle.cert_text.specs.ExampleLines.{example_lines}

-- a tree whose splits are proper has tests such as lines have
abbrev pub ProperTreesHaveForms : Type 0
ProperTreesHaveForms =
    (sheet : Sheet) (season : Results) (question : Question) (tree : Tree)
    → IsLeague sheet season → IsTrue (are_results season)
    → NodesMeet (IsProperNode sheet season question) [] tree
    → IsTrue (are_tests_for sheet question tree)

-- the lines of a refutation are in range
abbrev pub RefutationsAreInRange : Type 0
RefutationsAreInRange =
    (sheet : Sheet) (season : Results) (question : Question) (tree : Tree)
    → IsRefutationTree sheet season question tree
    → IsTrue (list_all is_in_range (plain_lines tree))

-- the lines of a tree on which a budget was spent are in range
abbrev pub SpentTreesAreInRange : Type 0
SpentTreesAreInRange =
    (sheet : Sheet) (season : Results) (question : Question) (budget : ℕ) (tree : Tree)
    → IsSpentTree sheet season question budget tree
    → IsTrue (list_all is_in_range (marked_lines tree))

-- the lines of an example are in range
abbrev pub ExamplesAreInRange : Type 0
ExamplesAreInRange =
    (sheet : Sheet) (season : Results) (question : Question) (finish : Results) (lots : List ℕ)
    → IsLeague sheet season → IsTrue (are_results season)
    → IsExample sheet season question finish lots
    → IsTrue (list_all is_in_range (example_lines question.claim season finish lots))
