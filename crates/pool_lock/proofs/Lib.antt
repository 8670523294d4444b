mod ToldLemmas
pub mod LentLemmas
