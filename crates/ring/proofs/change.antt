-- What the proofs of a change share.
pub mod Laws
