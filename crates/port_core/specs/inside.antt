-- What the functions promise each other and the crates above: no promise of the program rests on
-- these words. Read in this order.
pub mod LineSplits
pub mod ReaderCalls
pub mod Memory
pub mod Adapters
pub mod Buffers
