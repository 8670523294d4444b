-- What the calls do, and why a list gives no tree; then the order of an arena's leaves, how its
-- nodes stand, the way that is kept to one of them, how one is made of a list, how zones are
-- listed, and what a look at a node tells; last what holds of each node.
pub mod Calls
pub mod Stops
pub mod Order
pub mod Arena
pub mod LastPaths
pub mod Builds
pub mod Steps
pub mod Subtrees
pub mod GoodNodes
