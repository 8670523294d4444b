-- Reading order: the two numbers of a club and a line, the ranges on the way to them, and what an
-- answer says of them, for one row and for all.
pub mod Scores
pub mod Bisections
pub mod Bounds
pub mod AllScores
pub mod inside
