-- The first score of a cell, and the outcome of a score, then which clubs are wished points; then
-- the proposed finish as it is looked at, what it adds up to for clubs, and where a club stands
-- there.
pub mod Firsts
pub mod FirstOutcomes
pub mod Wished
pub mod ProposalViews
pub mod ProposedPoints
pub mod ProposedTotals
pub mod GroupStandings
