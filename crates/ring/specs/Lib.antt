-- What the code is in the terms of the rules (crate rules): the state that its ring is, the pieces that it stores, what its calls give back, and demands
-- 1 and 3 of any calls.
pub mod Ring
pub mod Pieces
pub mod Change
pub mod Turn
pub mod Replay
pub mod Drain
pub mod DrainPart
pub mod Touches
pub mod Calls
pub mod Code
