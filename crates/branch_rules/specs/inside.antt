-- What is found in a zone, then what a choice is, then what comes of a piece.
pub mod Found
pub mod Choices
pub mod Outcomes
pub mod GoalTests
pub mod Works
