-- The first part of the invariant, control, is kept by each step: a file for each.
pub mod Phase
pub mod Begin
pub mod Reserve
pub mod Look
pub mod Mark
pub mod Promote
pub mod Clear
pub mod Push
pub mod Fill
pub mod Pop
pub mod Commit
pub mod Find
pub mod Prepare
pub mod Swap
