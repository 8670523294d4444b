-- What trees, reasons and proposed finishes mean: proof lines show them, and a club is unsettled by
-- them. Read in this order.
pub mod Zones
pub mod GivenVerdicts
pub mod OutcomeZones
pub mod Options
pub mod PointRanges
pub mod SureOrder
pub mod Keys
pub mod Reasons
pub mod Proposals
pub mod Trees
pub mod TreeLists
pub mod Splits
