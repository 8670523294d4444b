-- Items of an answer, one for each of some rows, whatever an item is.
use Rattle.std.specs.Prelude.{◌≡◌, ℕ, List, ◌++◌, map, All}
use Rattle.answer_rows.specs.Items.{AnswerRow, answer_rows_of}

-- the items are about these rows, in their order, and a fact holds of each
pub record AreAbout {I : Type 0} (row_of : I → AnswerRow) (Fact : I → Type 0)
    (rows : List AnswerRow) (items : List I) : Type 0 where
  pub about : map row_of items ≡ rows
  pub each : All Fact items

-- what is added: such items about the first clubs and a line
pub record AddsAbout {I : Type 0} (row_of : I → AnswerRow) (Fact : I → Type 0) (line clubs : ℕ)
    (old new : List I) : Type 0 where
  pub more : List I
  pub after : new ≡ old ++ more
  pub right : AreAbout row_of Fact (answer_rows_of clubs line) more
