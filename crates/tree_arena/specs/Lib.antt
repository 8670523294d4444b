-- How many leaves are open is a word that promises rest on; all others stand in inside/.
pub mod OpenCounts
pub mod inside
