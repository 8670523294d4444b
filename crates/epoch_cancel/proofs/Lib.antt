mod PackLemmas
mod ViewLemmas
mod MoveLemmas
