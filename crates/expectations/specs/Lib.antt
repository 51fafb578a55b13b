-- What an expectation must have (Suits), and the verdict on a list of them (Verdict).
-- Steps is no part of that: it holds what the functions of this crate promise.
pub mod Suits
pub mod Verdict
pub mod Steps
