-- what the public contracts rest on
pub mod Flow
pub mod Cut
pub mod NetView
-- what the inner functions promise each other
pub mod Direction
pub mod Lists
pub mod Graph
pub mod Search
pub mod Moves
pub mod Parts
