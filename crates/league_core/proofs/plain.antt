-- General facts that the library of the toolchain has not: nothing here is of a league.
pub mod TruthValues
pub mod Numbers
pub mod Orderings
pub mod Lists
pub mod Filters
pub mod Runs
pub mod Parts
pub mod Prefixes
pub mod Counts
pub mod Places
pub mod Slots
pub mod Texts
pub mod Streams
pub mod Options
