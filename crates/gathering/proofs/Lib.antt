-- Laws that belong to no one function.
pub mod Inserting
pub mod Gathered
pub mod Merging
pub mod Spans
