-- Answers item by item, then reports answer by answer, and the bytes of reports. For whole sessions
-- after these: items as a type holds their lines, that the lines of an answer are short and read as
-- they were written, what an input and its feed give before the record `proofs`, and all of it
-- together. Last, reports on cups.
pub mod ShownLemmas
pub mod ItemLemmas
pub mod ReportLemmas
pub mod ByteLemmas
pub mod KeptItemLemmas
pub mod BriefLemmas
pub mod SizeLemmas
pub mod RowSizeLemmas
pub mod LineReadLemmas
pub mod PutLemmas
pub mod AnswerTextLemmas
pub mod AskTextLemmas
pub mod CourseTextLemmas
pub mod FrontLemmas
pub mod FeedProofsLemmas
pub mod KnownEndLemmas
pub mod GivenReportLemmas
pub mod AcceptedTextLemmas
pub mod AcceptedCupLemmas
pub mod ShownFormLemmas
pub mod CupLineBackLemmas
pub mod ShownSizeLemmas
pub mod CupBodyLemmas
pub mod LinesBackLemmas
pub mod AnswerBackLemmas
pub mod CupReportLemmas
pub mod CupGivenLemmas
pub mod CupCourseTextLemmas
pub mod AcceptedCupTextLemmas
