-- One answer as the lines of a report, then whole reports, the bytes of them, and whole sessions;
-- and reports on cups, accepted and written.
pub mod AcceptedAnswers
pub mod AcceptedReports
pub mod AcceptedBytes
pub mod AcceptedTexts
pub mod AcceptedCups
pub mod WrittenCupReports
pub mod AcceptedCupTexts
