-- That each side of each club of a cup is decided, and that each club has an item.
pub mod CupsDecided
