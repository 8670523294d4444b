-- Words of the functions stand in inside/; what an answer writes stands in cup_text.
pub mod inside
