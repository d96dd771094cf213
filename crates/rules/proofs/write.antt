-- Write: the moves that it decides on.
pub mod Moves
