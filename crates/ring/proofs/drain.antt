-- What the proofs about a drain share.
pub mod Laws
