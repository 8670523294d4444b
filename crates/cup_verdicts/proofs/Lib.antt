-- One verdict more.
pub mod VerdictLemmas
