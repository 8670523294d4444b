-- Read in this order: trees on which a budget was spent fairly, what an answer says of a line and a
-- club, the text of an answer.
pub mod FairTrees
pub mod Decisions
pub mod DecidedTexts
pub mod inside
