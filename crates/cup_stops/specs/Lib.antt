-- All words of this crate stand in inside/: no promise of the program rests on them.
pub mod inside
