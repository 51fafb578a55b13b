-- Laws that belong to no one function.
pub mod Kinded
pub mod Bytewise
pub mod Widths
pub mod Heads
pub mod Gated
pub mod Accepted
pub mod Lying
pub mod Written
pub mod Encoded
pub mod Faithful
pub mod Parts
