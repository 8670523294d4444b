-- Reading order: how a match may end, verdicts given that, the rows that say them, and what a line
-- says where a feed may ask what if.
pub mod Bases
pub mod Given
pub mod WhenTexts
pub mod Steps
pub mod inside
