-- The pieces that a Write or a Read leaves: that together they are the rule, and beside it the proofs of the functions of src/pieces.rt.
pub mod Laws
