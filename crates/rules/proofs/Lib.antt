-- What is proved of the rules: the limits, the worked cases, demands 1 and 3, and the later requests.
pub mod Limits
pub mod Lists
pub mod Cases
pub mod Receipt
-- demand 3: the invariant, the laws of its parts, what each step does to them, every list of actions, and the theorem
pub mod invariant
pub mod order
pub mod control
pub mod accounts
pub mod fates
pub mod bounds
pub mod runs
pub mod demand
pub mod setup
pub mod shape
pub mod write
pub mod drain
pub mod ReplayCases
pub mod DrainCases
pub mod Drops
