-- The order of keys, and keys in zones in which each fixture has one option.
pub mod KeyOrderLemmas
pub mod SingleKeyLemmas
