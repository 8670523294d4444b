-- Numbers compared in turn, leads and margins as bounds; fit options and able clubs; groups and the
-- records in them; who is ahead in a group; the rivals level with a club; the near reason.
pub mod InTurnLemmas
pub mod LeadLemmas
pub mod MarginLemmas
pub mod FitLemmas
pub mod GroupLemmas
pub mod AheadLemmas
pub mod MadeGroupLemmas
pub mod SureLeadLemmas
pub mod LevelRivalLemmas
pub mod NearLemmas
