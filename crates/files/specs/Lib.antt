-- What a word is.
pub mod Words
