-- Answers as numbers: the laws of the definition.
pub mod Laws
