-- What the groups of a cup have together; what is written, and cut, one after another; what a feed
-- comes to in the groups.
pub mod FeedLemmas
pub mod CutLemmas
pub mod FeedLawLemmas
