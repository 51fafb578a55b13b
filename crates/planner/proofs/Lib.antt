-- Laws that belong to no one function.
pub mod Asking
pub mod Calling
