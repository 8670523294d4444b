-- What the functions promise each other and the crates above: no promise of the program rests on
-- these words but on those of CupRowTruths.
pub mod CupRowTruths
pub mod CupParts
pub mod WrittenCupItems
