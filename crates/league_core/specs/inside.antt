-- What the functions promise each other and the crates above: no promise of the program rests on
-- these words. Read in this order.
pub mod Rooms
pub mod ScoreCodes
pub mod Codes
pub mod LotsFor
pub mod FinishList
pub mod Extents
pub mod PairSums
pub mod Leaves
pub mod Lending
pub mod Pending
pub mod KeptClubs
