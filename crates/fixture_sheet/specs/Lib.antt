-- Reading order: the fields of a line, the numbers and names that fields write, the words for
-- refusals, how records make a sheet of whatever kind, what a record makes of a league's sheet, the
-- sheet of an input's contents, and where reading stops.
pub mod Fields
pub mod Texts
pub mod Faults
pub mod Readings
pub mod Records
pub mod Sheets
pub mod LastReads
pub mod inside
