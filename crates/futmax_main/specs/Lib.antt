-- Read in this order: it is the order in which the notions rest on each other. Modes has them by
-- the mode of a command. What a session writes stands in session_turns.
pub mod Checks
pub mod CupModes
pub mod SampleRows
pub mod Modes
pub mod inside
