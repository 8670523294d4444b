-- What a match leaves a side at the least and at the most, and what all matches leave a club.
pub mod RowEnds
