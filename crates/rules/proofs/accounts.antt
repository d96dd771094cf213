-- The second part of the invariant, the accounts, is kept by each step: laws first, then a file for each step that changes them.
pub mod Laws
pub mod Readings
pub mod Working
pub mod Lost
pub mod Emptied
pub mod Phase
pub mod Begin
pub mod Reserve
pub mod Mark
pub mod Push
pub mod Fill
pub mod Pop
pub mod Commit
pub mod Event
pub mod Swap
