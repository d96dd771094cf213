-- Which form a word names, and what the program tells at its end.
pub mod Forms
pub mod Totals
