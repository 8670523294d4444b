-- The setting of a box, what a cell stands for, then what a box does, then the points that it
-- leaves.
pub mod ZoneBoxViews
pub mod Cells
pub mod Boxes
pub mod OpenSides
pub mod Unplayed
pub mod Ends
pub mod Totals
pub mod PlayedViews
pub mod Points
