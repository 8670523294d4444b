-- What follows from the definitions, and a league worked by hand: no promise rests on these.
pub mod NearLaws
pub mod NearRows
