-- The receipt: that it adds up, and beside it the proofs of the functions of src/receipts.rt.
pub mod Laws
