-- In shape: what it tells of a ring.
pub mod Laws
