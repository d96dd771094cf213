-- The parts of a ring: laws of where a slot stands.
pub mod Laws
