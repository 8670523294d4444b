-- Heads of lines, places among them, blocks, and lists of blocks.
pub mod LineHeadLemmas
pub mod LinePlaceLemmas
pub mod LineBlockLemmas
pub mod LineListLemmas
