-- Demands 1 and 3 of the code, and that there are such runs.
pub mod Promises
pub mod Steps
pub mod Singly
pub mod Runs
pub mod Start
pub mod Code
pub mod CodeRuns
