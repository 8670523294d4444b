-- Leagues worked by hand, computed when the crate is checked.
pub mod WorkedRows
pub mod CriteriaRows
pub mod SeasonRows
pub mod ZoneRows
pub mod ReasonRows
pub mod ProposalRows
pub mod SureRows
pub mod TreeRows
pub mod KeyRows
