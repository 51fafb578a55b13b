-- Laws that belong to no one function.
pub mod Indexing
pub mod Columns
