-- Laws that belong to no one function.
pub mod Accepted
pub mod Stepping
pub mod Starting
pub mod Filling
