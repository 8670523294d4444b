-- What a promise of the program means stands in game/, what its trees and reasons mean in search/;
-- laws/ has what holds of these words, rows/ leagues worked by hand, and inside/ what the functions
-- promise each other. The modules of each are listed in the order in which the notions rest on each
-- other.
pub mod game
pub mod search
pub mod inside
pub mod laws
pub mod rows
