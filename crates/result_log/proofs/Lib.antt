-- Lemmas on one notion each: records, feeds, what a call reads, rounds of a live input; and feeds
-- worked by hand.
pub mod RecordLemmas
pub mod FeedLemmas
pub mod RoundLemmas
pub mod CallLemmas
pub mod WorkedFeeds
pub mod PassedLemmas
pub mod StopLemmas
pub mod LiveLemmas
pub mod LastReadLemmas
