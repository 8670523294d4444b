-- What the functions promise each other, and the laws of feeds.
pub mod GroupLimits
pub mod FeedLaws
