-- Read in this order: it is the order in which the notions rest on each other.
pub mod States
pub mod Steps
pub mod Adoptions
pub mod Goodness
pub mod Calls
pub mod QuestionStates
pub mod Looks
pub mod Runs
pub mod Laws
pub mod Views
