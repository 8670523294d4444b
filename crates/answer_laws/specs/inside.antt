-- What holds of questions, answers and tables, whatever the program does.
pub mod Completeness
pub mod SeasonAnswers
pub mod TableLaws
