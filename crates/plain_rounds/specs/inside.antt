-- Reading order: what ends a round, what reports make of a pool, what a feeder does. What a round
-- passes and tells stands in result_log.
pub mod Rounds
pub mod Reports
pub mod Feeding
