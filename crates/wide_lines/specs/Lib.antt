-- Read in this order: reasons, trees of zones, the texts of their lines, trees as lists of lines.
pub mod WideReasons
pub mod WideTrees
pub mod WideTexts
pub mod WideTreeLines
pub mod inside
