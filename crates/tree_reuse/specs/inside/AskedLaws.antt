-- What a season leaves of a tree whose tests may be asked is good there.
use Rattle.league_core.specs.declared.sheet.Sheet.{Sheet}
use Rattle.league_core.specs.declared.question.Question.{Question}
use Rattle.league_core.specs.game.Results.{Results}
use Rattle.league_core.specs.search.Trees.{Tree, NodesMeet}
use Rattle.league_core.specs.search.Splits.{IsProperNode}
use Rattle.std.specs.Prelude.{[]}
use Rattle.tree_reuse.specs.Retargets.{retargeted}
use Rattle.tree_reuse.specs.Asked.{IsAskedTree}
use Rattle.tree_reuse.specs.inside.RetargetLaws.{IsKeptNode}

-- what a season leaves of such a tree is good there, whatever its leaves say
abbrev pub AskedTreesAreGood : Type 0
AskedTreesAreGood =
    (sheet : Sheet) (season : Results) (question : Question) (tree : Tree)
    → IsAskedTree sheet question tree
    → NodesMeet (IsKeptNode sheet season question) [] (retargeted sheet season question tree)

-- a tree whose splits are proper in some season is such a tree
abbrev pub ProperTreesAreAsked : Type 0
ProperTreesAreAsked =
    (sheet : Sheet) (season : Results) (question : Question) (tree : Tree)
    → NodesMeet (IsProperNode sheet season question) [] tree → IsAskedTree sheet question tree
