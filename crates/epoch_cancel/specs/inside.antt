-- Read in this order: it is the order in which the notions rest on each other.
pub mod Packs
pub mod Seats
pub mod Views
pub mod Rule
pub mod Moves
