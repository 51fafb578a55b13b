-- Loads as plain numbers (Numbers).
-- Steps is no part of that: it holds what the functions of this crate ask and promise.
pub mod Numbers
pub mod Steps
