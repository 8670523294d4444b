-- Trees whose tests a tree of a question may ask, whatever season they were made for, and whoever
-- wrote them down: of one of the sheet's fixtures, or of a rival that the zone does not mark.
use Rattle.std.specs.Prelude.{Bool, not, ◌&&◌, ◌==◌, nat_lt, IsTrue, List, [], length}
use Rattle.league_core.specs.declared.sheet.Sheet.{Sheet}
use Rattle.league_core.specs.declared.question.Question.{Question}
use Rattle.league_core.specs.declared.zone.Test.{Test}
use Rattle.league_core.specs.declared.zone.Test.TheVariants.{Home, Draw, HomeMost, AwayMost, Rival}
use Rattle.league_core.specs.declared.zone.Literal.{Literal}
use Rattle.league_core.specs.declared.tree.TreeNode.{TreeNode}
use Rattle.league_core.specs.declared.tree.TreeNode.TheVariants.{Split, Open, Lent, Refuted}
use Rattle.league_core.specs.search.Zones.{is_marked}
use Rattle.league_core.specs.search.Trees.{Tree, NodesMeet}

-- a test that may be asked in a zone: of a fixture of the sheet, or of a rival of the question's
-- club that is not marked there
abbrev pub may_ask : Sheet → Question → List Literal → Test → Bool
may_ask sheet question zone (Home fixture) = nat_lt fixture (length sheet.fixtures)
may_ask sheet question zone (Draw fixture) = nat_lt fixture (length sheet.fixtures)
may_ask sheet question zone (HomeMost fixture most) = nat_lt fixture (length sheet.fixtures)
may_ask sheet question zone (AwayMost fixture most) = nat_lt fixture (length sheet.fixtures)
may_ask sheet question zone (Rival club) =
    nat_lt club (length sheet.clubs) && not (club == question.club) && not (is_marked zone club)

-- of a split, that its test may be asked in its zone; of a leaf, nothing
abbrev pub IsAskedNode : Sheet → Question → List Literal → TreeNode → Type 0
IsAskedNode sheet question zone (Split test fresh) = IsTrue (may_ask sheet question zone test)
IsAskedNode sheet question zone Open = Unit {0}
IsAskedNode sheet question zone (Lent number) = Unit {0}
IsAskedNode sheet question zone (Refuted reason fresh) = Unit {0}

-- the test of each split may be asked in its zone
abbrev pub IsAskedTree : Sheet → Question → Tree → Type 0
IsAskedTree sheet question tree = NodesMeet (IsAskedNode sheet question) [] tree
