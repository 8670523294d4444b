-- Reading order: what a worker has and goes on with, and what a round with workers begins with.
-- What a round passes and tells stands in result_log, and what a feeder does in plain_rounds.
pub mod Workers
pub mod Starts
