-- Where one finish is left, and so each question about a group, is decided; numbers of one kind or
-- of the other, and lines for each of a list; the groups of a cup; no candidate is beyond all keys;
-- then what stands for a side, what it shows, and the item of a club.
pub mod OneFinishLemmas
pub mod GroupDecidedLemmas
pub mod EitherKindLemmas
pub mod CupGroupLemmas
pub mod NoneBeyondLemmas
pub mod TextTruthLemmas
pub mod AskedGroupLemmas
pub mod SideDecidedLemmas
pub mod ClubItemLemmas
pub mod CupAnswerLemmas
