-- What the proofs of the encoder share.
pub mod Laws
