-- What the line at a position is, which node a line stands for, and which reasons and tests a tree
-- may have as lines.
pub mod TokenLemmas
pub mod NodeLemmas
pub mod FitLemmas
