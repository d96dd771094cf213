-- What the timed loop does.
pub mod Loop
