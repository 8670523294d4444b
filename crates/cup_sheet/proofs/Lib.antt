-- What records add to a cup; then lots of one group, of groups that follow one another, of all
-- together, and lots within a group; and worked cups.
pub mod CupDraftLemmas
pub mod CupLotsLemmas
pub mod LaidLotsLemmas
pub mod JoinedLotsLemmas
pub mod WithinLotsLemmas
pub mod WorkedCups
pub mod WorkedQualifiers
