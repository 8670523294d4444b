-- What a promise of the program means: the game, its table and its verdicts. Read in this order: it
-- is the order in which the notions rest on each other.
pub mod Limits
pub mod Sheets
pub mod Results
pub mod Seasons
pub mod Finishes
pub mod Sums
pub mod ClubSets
pub mod HeadToHead
pub mod Ahead
pub mod Ranking
pub mod Questions
pub mod Verdicts
