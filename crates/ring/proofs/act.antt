-- Actions of any kind.
pub mod Laws
