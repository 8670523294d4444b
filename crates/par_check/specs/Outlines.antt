-- What the grammar alone makes of an item, and what the walk over it remembers.
use Rattle.std.specs.Prelude.{◌≡◌, ◌<◌, ◌≤◌, ℕ, ◌+◌, List, [], ◌∷◌, map, drop, length, Result, Ok}
use Rattle.std.specs.Prelude.{Err, Option, None, Some}
use Rattle.league_core.specs.declared.question.Claim.{Claim}
use Rattle.league_core.specs.declared.question.Question.{Question}
use Rattle.league_core.specs.game.Questions.{full_question}
use Rattle.cert_check.specs.declared.item.PartRead.{PartRead}
use Rattle.cert_check.specs.declared.stop.CheckStopAt.{CheckStopAt}
use Rattle.cert_check.specs.declared.stop.CheckStopAt.TheVariants as halt
use Rattle.cert_check.specs.ExpectedItems.{Basis, verdict_row, tree_head, spent_head, finish_head}
use Rattle.cert_check.specs.ExpectedItems.{both_parts, one_part}
use Rattle.cert_check.specs.LineGrammars.{Ending, whole_at, bad_line, short}
use Rattle.cert_check.specs.inside.Calls.{ReportView}
use Rattle.par_check.specs.declared.item_due.ItemRow.{ItemRow}
use Rattle.par_check.specs.declared.item_due.ItemDue.{ItemDue}
use Rattle.par_check.specs.declared.item_due.ItemDue.TheVariants as due
use Rattle.par_check.specs.declared.item_due.DueAfter.{DueAfter}
use Rattle.par_check.specs.declared.item_due.DueAfter.TheVariants.{Nothing, One, Two}
use Rattle.par_check.specs.FirstStops.{grammar_from}
use Rattle.par_check.specs.Shapes.{DueShape, as_it_is, some_nodes, some_score, some_lots}
use Rattle.par_check.specs.Shapes.{shapes_ending}

-- the question of an item's line and club
abbrev pub question_of : ItemRow → Claim → Question
question_of row claim = full_question row.club row.line claim

-- the shape of what is due in an item
abbrev pub shape_in : Basis → ItemRow → ItemDue → DueShape
shape_in basis row due.Row = as_it_is (verdict_row row.line row.club)
shape_in basis row (due.TreeHead claim) = as_it_is (tree_head (question_of row claim))
shape_in basis row (due.SpentHead claim) = as_it_is (spent_head (question_of row claim))
shape_in basis row (due.FinishHead claim) = as_it_is (finish_head (question_of row claim))
shape_in basis row due.BothParts = as_it_is (both_parts row.line row.club)
shape_in basis row (due.OnePart claim) = as_it_is (one_part (question_of row claim))
shape_in basis row (due.Nodes tree) = some_nodes tree.kind (question_of row tree.claim) tree.behind
shape_in basis row (due.Score claim fixture) =
    some_score (question_of row claim) fixture (drop (fixture + 1) basis.season.scores)
shape_in basis row (due.Lots claim) = some_lots (question_of row claim)

-- what a line leaves due, in order
abbrev pub left_by : DueAfter → List ItemDue
left_by Nothing = []
left_by (One it) = it ∷ []
left_by (Two first second) = first ∷ second ∷ []

-- its shapes, if the line may come there
abbrev pub shapes_left : Basis → ItemRow → Option DueAfter → Option (List DueShape)
shapes_left basis row None = None
shapes_left basis row (Some left) = Some (map (shape_in basis row) (left_by left))

-- what lines come to by the shapes of what is due in an item
abbrev pub ending_by_shapes : ReportView → ItemRow → ℕ → List ItemDue → ℕ → Ending
ending_by_shapes judged row at left unsettled =
    shapes_ending judged.basis (drop at judged.tokens) (map (shape_in judged.basis row) left) at
    unsettled

-- an item is gone over by the grammar alone, with so many unsettled rows in it; or it stops
abbrev pub OutlinesItem : ReportView → ItemRow → ℕ → Result PartRead CheckStopAt → Type 0
OutlinesItem judged row from (Ok found) =
    (from + found.unsettled ≤ found.next) × (found.next ≤ length judged.tokens)
    × ((before : ℕ) → grammar_from judged from (verdict_row row.line row.club ∷ []) before
    ≡ whole_at found.next (before + found.unsettled))
OutlinesItem judged row from (Err (halt.BadLine at)) =
    (at < length judged.tokens)
    × ((before : ℕ) → grammar_from judged from (verdict_row row.line row.club ∷ []) before
    ≡ bad_line at)
OutlinesItem judged row from (Err (halt.NoProof at)) = ⊥
OutlinesItem judged row from (Err halt.Short) =
    (before : ℕ) → grammar_from judged from (verdict_row row.line row.club ∷ []) before ≡ short
OutlinesItem judged row from (Err halt.OutOfMemory) = Unit {0}
