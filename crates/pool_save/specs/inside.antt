-- What the functions promise each other and the crates above: no promise of the program rests on
-- these words. Read in this order.
pub mod SoFar
pub mod Calls
pub mod TakingUp
pub mod SavedLaws
pub mod Nearly
pub mod SavedPools
pub mod UnspentLaws
pub mod WrittenPools
pub mod SavedBytes
