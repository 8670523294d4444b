-- How often a number is lent, as it is counted in a list of nodes.
pub mod LentNodes
