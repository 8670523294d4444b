-- What is found in a zone, what a search comes to, all rows of an answer, what stands for a
-- question
-- in one; and the law of questions. No promise of the program rests on these words.
pub mod WideLooks
pub mod WideTasks
pub mod AllDecided
pub mod WideParts
pub mod WideDecided
