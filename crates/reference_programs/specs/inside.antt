-- Read in this order: the walk over all finishes, then trees in boxes, how a boxed node is seen and
-- what private steps do.
pub mod Walks
pub mod Reaches
pub mod Outcomes
pub mod Laws
pub mod Boxed
