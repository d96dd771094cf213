-- The rules of the ring, one file for each part. Read in this order.
-- the ring and what is said of it
pub mod Limits
pub mod Lists
pub mod State
pub mod Answers
pub mod Refusals
pub mod Words
pub mod Shape
-- the actions, and the receipt
pub mod SetUp
pub mod Begin
pub mod Write
pub mod Read
pub mod Act
pub mod Receipt
-- demand 1: refused just as listed
pub mod Listed
-- the worked cases
pub mod Cases
-- demand 3
pub mod Remember
pub mod History
pub mod Demand
-- the later requests: a recorded day (E1), a drain (E2), a drop that commits (E3). That answers stand as numbers in a buffer that is lent (Codes, and in Replay) is a house form
pub mod Codes
pub mod Actions
pub mod Replay
pub mod ReplayCases
pub mod Drain
pub mod DrainCases
pub mod Drops
pub mod Emptied
