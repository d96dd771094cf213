-- What the proofs of a walk share.
pub mod Laws
