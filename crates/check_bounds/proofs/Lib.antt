-- Lemmas on one notion each: ranges of sums, tables of them, domains of a zone, extremes, what they
-- give, what a reason says over them, rivals counted by sets, steps of answers, match points that
-- change, cells, rounds and ways.
pub mod IntRangeLemmas
pub mod TableLemmas
pub mod WalkLemmas
pub mod ScoreDomainLemmas
pub mod TransferLemmas
pub mod MeaningLemmas
pub mod KeyLemmas
pub mod RivalLemmas
pub mod StepLemmas
pub mod ExtremeScoreLemmas
pub mod WonLemmas
pub mod OpenCountLemmas
pub mod CellLemmas
pub mod TieRoundLemmas
pub mod TrailLemmas
