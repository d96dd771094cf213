-- A trace as bytes: what its header says, what its replay gives, how it is written, the round trip, worked traces, and demand 3 of runs that a replay
-- begins. Read in this order.
pub mod Header
pub mod Replays
pub mod Encode
pub mod Trace
pub mod TraceCases
pub mod Runs
