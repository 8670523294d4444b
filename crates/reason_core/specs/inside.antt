-- What is true of a finding, then of what was done with a piece.
pub mod Findings
pub mod Dones
