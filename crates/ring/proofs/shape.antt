-- The test of shape: that what the code tests is all of it, and beside it the proofs of the functions of src/shape.rt that want one.
pub mod Laws
