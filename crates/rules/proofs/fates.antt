-- The fates of the writers are kept by each step that changes them.
pub mod Laws
pub mod Steps
