-- Laws that belong to no one function.
pub mod Rewriting
pub mod Asking
pub mod Both
pub mod Conversions
pub mod Long
