-- Leaves on which no work is done are good nodes.
use Rattle.std.proofs.Common.{ℕ, List}
use Rattle.std.proofs.lemmas.Bool.{false≢true}
use Rattle.league_core.specs.declared.sheet.Sheet.{Sheet}
use Rattle.league_core.specs.declared.question.Question.{Question}
use Rattle.league_core.specs.declared.zone.Literal.{Literal}
use Rattle.league_core.specs.declared.tree.TreeNode.TheVariants.{Open, Lent}
use Rattle.league_core.specs.game.Results.{Results}
use Rattle.tree_arena.specs.inside.GoodNodes.{IsGoodNode}

-- an open leaf is good in any zone, and so is a lent one
pub open_is_good : (sheet : Sheet) (season : Results) (question : Question) (zone : List Literal)
    → IsGoodNode sheet season question zone Open
open_is_good sheet season question zone =
    record { proper = tt; refuted = tt; unit = λ new. absurd (false≢true new) }

pub lent_is_good : (sheet : Sheet) (season : Results) (question : Question) (zone : List Literal)
    (number : ℕ) → IsGoodNode sheet season question zone (Lent number)
lent_is_good sheet season question zone number =
    record { proper = tt; refuted = tt; unit = λ new. absurd (false≢true new) }
