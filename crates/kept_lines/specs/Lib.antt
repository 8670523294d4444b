-- The lines of a text with their numbers; how they are kept is in inside/.
pub mod LineLists
pub mod inside
