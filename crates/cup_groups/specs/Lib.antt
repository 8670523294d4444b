-- The answers of a cup rest on the first module; no promise of the program on the others.
pub mod GroupStarts
pub mod inside
