-- What is left of a tree after a change, and which trees may be handed in.
pub mod Retargets
pub mod Asked
pub mod inside
