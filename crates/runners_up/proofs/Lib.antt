-- Ends of groups one after another, lots with one group's clubs before or after all others, what
-- these show of a club, and how the code makes them; other groups that are asked, for a key.
pub mod LaidEndsLemmas
pub mod JointLotsLemmas
pub mod FarCandidateLemmas
pub mod JointDrawnLemmas
pub mod JointShownLemmas
pub mod JointCodeLemmas
pub mod GoallessLemmas
pub mod AnyEndLemmas
pub mod GroupsAskedLemmas
pub mod GroupSurveyLemmas
pub mod SideAtKeyLemmas
pub mod SideByPlaceLemmas
pub mod SideLawLemmas
