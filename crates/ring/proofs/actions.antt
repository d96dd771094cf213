-- Actions as bytes: what stands where no whole action does, and beside it the proofs of the functions of src/actions.rt.
pub mod Laws
