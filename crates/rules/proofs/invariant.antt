-- The order of the ring pages, and the five parts of the invariant behind demand 3: what each says.
pub mod Order
pub mod Control
pub mod Accounts
pub mod Fates
pub mod Bounds
pub mod Open
