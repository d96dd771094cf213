-- What the text's numbers are, what a refusal leaves of a trace, and which name is no file's.
pub mod Tallies
pub mod Receipts
pub mod Covers
pub mod FileNames
