-- What the functions promise each other and the crates above: no promise of the program rests on
-- these words. Read in this order.
pub mod PlainLines
pub mod Drafts
pub mod Calls
pub mod SheetReads
pub mod Laws
