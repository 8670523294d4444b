-- One module: the places that a club can have.
pub mod Places
pub mod inside
