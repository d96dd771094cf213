-- What a drain tells; that it is so many Reads made singly; that eight Reads in a row never end one of a ring that is reached; and that
-- it hands out all that waits while no writer is at work.
pub mod Told
pub mod Singly
pub mod Soon
pub mod Within
pub mod Emptied
