-- Laws that belong to no one function. The proof of a function stands in a folder of its own.
pub mod Loop
pub mod Drain
