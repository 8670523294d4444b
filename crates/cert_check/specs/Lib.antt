-- Read in this order, after what a line is: how lines are read by any grammar, what may come in a
-- report and what it leaves due, a whole report, and what an input with a report comes to.
pub mod LineGrammars
pub mod ExpectedItems
pub mod Machine
pub mod Outcomes
pub mod inside
