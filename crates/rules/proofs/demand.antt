-- From the invariant to demand 3, to what complete means, and to a ring always in shape; `Theorem` has the theorem. `Refusals` has demand 1.
pub mod Events
pub mod Lost
pub mod Slots
pub mod Places
pub mod Counting
pub mod Counts
pub mod Marks
pub mod Claim
pub mod Complete
pub mod Shape
pub mod Refusals
pub mod Theorem
