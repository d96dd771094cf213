-- The order of the pages: laws of links and places, of flags and records, and of the search for the header mark.
pub mod Turn
pub mod Swap
pub mod Walk
pub mod Places
pub mod Records
pub mod Lower
pub mod Search
