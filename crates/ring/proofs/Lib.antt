-- Laws and theorems that belong to no one function.
pub mod Representation
pub mod Loops
pub mod demand
