-- How many clubs and fixtures are before a group, and where it starts.
pub mod StartLemmas
