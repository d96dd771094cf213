-- Set-up: the laws of a fresh ring.
pub mod Laws
pub mod InShape
