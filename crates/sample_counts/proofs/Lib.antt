-- The sample's rounds and scores, and its events.
pub mod SampleLemmas
pub mod HeardLemmas
