-- Reading order: the scores that a fixture may still end with, what is looked at in them, the few
-- scores that bound all others, what a zone leaves of each fixture, sums and tables of them, what
-- is kept of them from zone to zone, what is sure of each rival, what a reason then says, and what
-- is left of a key.
pub mod ScoreDomains
pub mod Terms
pub mod ExtremeScores
pub mod Zones
pub mod Trails
pub mod IntRanges
pub mod Tables
pub mod Walks
pub mod OpenCounts
pub mod Cells
pub mod Steps
pub mod Refutes
pub mod KeysOver
