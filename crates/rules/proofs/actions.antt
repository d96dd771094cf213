-- Actions as bytes: the laws of the definition, and of a part of some bytes.
pub mod Laws
pub mod Shift
