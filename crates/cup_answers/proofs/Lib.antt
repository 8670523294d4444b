-- Items without proofs.
pub mod UnprovedItemLemmas
