-- The bounds are kept by each step.
pub mod Steps
