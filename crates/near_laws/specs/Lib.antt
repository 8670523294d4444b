-- Read in this order: it is the order in which the notions rest on each other.
pub mod Fits
pub mod Leads
pub mod SureLeads
pub mod Groups
pub mod Near
pub mod inside
