-- Set-up: what the loop of `fresh_words` keeps, and beside it the proofs of the functions of src/setup.rt.
pub mod Laws
