-- What `==` says of literals.
pub mod LiteralLemmas
-- What was done with a piece, and what was found there.
pub mod DoneLemmas
