-- Where a club plays, and a question, as the code keeps them.
pub mod ClubSeats
pub mod KindQuestions
