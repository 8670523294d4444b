-- The verdicts on the clubs of a cup.
pub mod CupVerdicts
