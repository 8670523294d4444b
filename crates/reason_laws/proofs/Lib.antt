-- Members of a zone, finishes in its box, the order of its clubs; why a reason leaves no member an
-- example, and why a zone with one finish decides itself; then halves, trees, weights, worked
-- zones.
pub mod MemberLemmas
pub mod MarkedOrderLemmas
pub mod FixedLemmas
pub mod BoxLemmas
pub mod RangeOrderLemmas
pub mod SureLemmas
pub mod SureOverallLemmas
pub mod SureOrderLemmas
pub mod KeyLemmas
pub mod SingleLemmas
pub mod RivalCountLemmas
pub mod ReasonLemmas
pub mod TieLemmas
pub mod DecidedLemmas
pub mod SplitLemmas
pub mod HalfMarkLemmas
pub mod CountLemmas
pub mod ChoiceLemmas
pub mod MarkLemmas
pub mod WeightLemmas
pub mod RefutationLemmas
pub mod MatchOutcomeLemmas
pub mod WorkedZones
pub mod WorkedOutcomes
