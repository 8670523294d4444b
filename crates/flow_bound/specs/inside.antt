-- what the public contracts rest on
pub mod Excess
-- what sets the two cuts apart
pub mod Cuts
-- what the inner functions promise each other
pub mod Parts
pub mod Fixtures
pub mod Meetings
pub mod Network
