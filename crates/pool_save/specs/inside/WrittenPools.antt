-- What is written of a pool on which the work is finished: an item for each of its questions, with
-- the tree that the pool keeps of it, and `saved_end`.
use Rattle.std.specs.Prelude.{ℕ, List, ◌++◌}
use Rattle.std.specs.List.{flat_map}
use Rattle.league_core.specs.declared.sheet.Sheet.{Sheet}
use Rattle.cert_text.specs.Rows.{text_of_row}
use Rattle.branch_pool.specs.declared.question_state.QuestionState.{QuestionState}
use Rattle.branch_pool.specs.inside.States.{PoolView}
use Rattle.pool_save.specs.SavedTexts.{end_fields}
use Rattle.pool_save.specs.SavedItems.{saved_item_text}

-- the item of a question, with the tree that is kept of it
abbrev pub item_of_seat : Sheet → QuestionState → List ℕ
item_of_seat sheet seat = saved_item_text sheet seat.question seat.tree

-- the items of the questions, in their order
abbrev pub items_of_seats : Sheet → List QuestionState → List ℕ
items_of_seats sheet seats = flat_map (item_of_seat sheet) seats

-- the saved text of a pool
abbrev pub saved_text_of : PoolView → List ℕ
saved_text_of pool = items_of_seats pool.sheet pool.seats ++ text_of_row end_fields
