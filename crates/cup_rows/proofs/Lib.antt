-- That a set names few clubs; the lines of a joint finish; the trees of a group's clubs; that trees
-- of a search have numbers of the cup; a club's seat, and a group of the cup by its number; what is
-- found of a club, as within those numbers, as an answer has it, and in the forms of lines.
pub mod MemberLemmas
pub mod JointLineLemmas
pub mod ClubTreeLemmas
pub mod WithinLemmas
pub mod SeatLemmas
pub mod GroupOfCupLemmas
pub mod FoundWithinLemmas
pub mod TreeLineLemmas
pub mod RefutedTextLemmas
pub mod OpenTextLemmas
pub mod TreeRowLemmas
pub mod FoundFormLemmas
pub mod CupPutLemmas
pub mod CupMadeLemmas
