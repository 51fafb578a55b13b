-- From one edition of the circuit file to the other: Convert has the calls, Conversions what holds of them.
-- Steps is no part of that: it holds what the crate's own functions promise each other.
pub mod Convert
pub mod Conversions
pub mod Steps
