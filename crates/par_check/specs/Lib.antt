-- Where an item may begin, and what is known of items that were judged.
pub mod FirstStops
pub mod Shapes
pub mod Outlines
pub mod Cuts
pub mod Checked
pub mod Places
pub mod FeedAsks
