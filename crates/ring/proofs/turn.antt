-- What a turn of a drain does.
pub mod Laws
