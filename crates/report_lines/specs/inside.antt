-- Proof lines as they are written, and answers with them.
pub mod WrittenLines
pub mod WrittenReports
