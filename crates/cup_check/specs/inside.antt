-- What the functions promise each other and the crates above: no promise of the program rests on
-- these words but on those of CupReportTruths. Read in this order.
pub mod GroupPlaces
pub mod CupGoes
pub mod CupTreeCalls
pub mod CupSideCalls
pub mod JointCalls
pub mod CupCheckCalls
pub mod CupInputCalls
pub mod CupReportTruths
