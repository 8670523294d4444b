-- Read in this order: what a saved text is as lines and as text, how one is read, which saved trees
-- are nearly done, and what an answer says of those. `inside` has what no promise of the program
-- rests on.
pub mod SavedTexts
pub mod SavedItems
pub mod SavedReadings
pub mod NearlyDone
pub mod SavedAnswers
pub mod inside
