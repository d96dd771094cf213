-- The invariant holds after every list of actions: it holds of a fresh ring, and Begin, Write and Read keep it.
pub mod Invariant
pub mod Fresh
pub mod Begin
pub mod Write
pub mod Read
pub mod Always
pub mod Reached
