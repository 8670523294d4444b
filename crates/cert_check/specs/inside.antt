-- What the functions promise each other and the crates above: no promise of the program rests on
-- these words. Read in this order.
pub mod Pieces
pub mod LineParts
pub mod Grammar
pub mod Laws
pub mod Truths
pub mod Goes
pub mod Calls
pub mod Answers
pub mod ReportTruths
pub mod InputCalls
