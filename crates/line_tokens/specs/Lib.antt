-- Read in this order: what a line is, the rows of a report, what a line may name, and which node of
-- a tree it stands for.
pub mod Tokens
pub mod RowFields
pub mod LineRanges
pub mod TreeNodes
pub mod inside
