-- Keys and both ends of them, and then the laws of keys.
pub mod KeyEnds
pub mod KeyLaws
