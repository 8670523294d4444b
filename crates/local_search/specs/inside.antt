-- What contracts see of a solver that walks.
pub mod WalkedViews
