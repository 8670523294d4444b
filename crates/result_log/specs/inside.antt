-- What the functions promise each other and the crates above: no promise of the program rests on
-- these words. Read in this order.
pub mod FeedParts
pub mod Calls
pub mod Readings
pub mod Rounds
pub mod LastReads
pub mod Laws
