-- Laws that belong to no one function. The proof of a function stands in a folder of its own.
pub mod Actions
pub mod walk
pub mod Trace
pub mod TraceCases
pub mod Runs
