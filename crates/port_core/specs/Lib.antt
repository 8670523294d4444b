-- Reading order: what a device promises, what a line is, what an input gives, and what the reader
-- of lines has.
pub mod Ports
pub mod Lines
pub mod Contents
pub mod Readers
pub mod inside
