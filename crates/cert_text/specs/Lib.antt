-- Reading order: what a row of fields is, what each proof line says in its parts, the ranges of its
-- numbers, which lists of lines are trees and examples, and which line a text has the form of.
pub mod Rows
pub mod Lines
pub mod Ranges
pub mod TreeLines
pub mod ExampleLines
pub mod Places
pub mod Forms
pub mod inside
