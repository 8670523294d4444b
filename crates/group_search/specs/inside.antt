-- Lots that leave a club at one place; what is found in a zone;
-- what a search comes to.
pub mod SecondLots
pub mod GroupLooks
pub mod GroupTasks
