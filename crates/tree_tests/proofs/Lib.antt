pub mod LentNodeLemmas
