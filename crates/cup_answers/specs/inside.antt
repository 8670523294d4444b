-- That the answer of a cup needs no proofs.
pub mod UnprovedItems
