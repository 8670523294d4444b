pub mod AdoptedLemmas
