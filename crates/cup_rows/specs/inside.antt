-- The lines that the code writes: of a tree, of a joint finish, of all that is known of a club; and
-- the clubs of which something is known.
pub mod GroupTreeLines
pub mod JointLines
pub mod VerdictLines
pub mod FoundClubs
