-- Write: the laws of its decisions.
pub mod Laws
