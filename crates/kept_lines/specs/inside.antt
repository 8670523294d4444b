-- The heads of lines in a row of bytes, and then lines in blocks: no promise of the program rests
-- on these words.
pub mod LineHeads
pub mod LineBlocks
