pub mod HalfLemmas
