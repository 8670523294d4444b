-- What a cell leaves of its match, and what is kept of all matches; then the rivals that are looked
-- at, and those that cannot be level with the club.
pub mod CellMatches
pub mod ZoneMatches
pub mod Pressed
pub mod Barred
pub mod Sights
