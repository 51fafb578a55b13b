-- What Size answers: Sizes. What the fitted Run answers, and what it leaves in the areas: Fitted. What both have in common with
-- Plan and Run: Same.
-- Steps is no part of that: it holds what the crate's own functions promise each other.
pub mod Sizes
pub mod Fitted
pub mod Same
pub mod Steps
