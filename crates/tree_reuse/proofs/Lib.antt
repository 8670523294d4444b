-- Trees that are carried over: what is left of them, and how it is listed.
pub mod RetargetLemmas
pub mod CarryLemmas
