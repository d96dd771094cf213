-- Read: the laws of its decisions, and what it leaves of the shape.
pub mod Laws
pub mod Kept
