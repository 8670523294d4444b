-- Reading order: trees made in one epoch, what is asked of a season, what an answer says, its rows,
-- the parts of texts, and the answers of the modes `table` and `scores`.
pub mod NewTrees
pub mod AskedQuestions
pub mod Items
pub mod Rows
pub mod Parts
pub mod Tables
pub mod ScoreTexts
pub mod inside
