-- What the charge call answers, and what it leaves in the areas: Questions, Charge; loads and sums are in the crate charge_loads.
-- Steps is no part of that: it holds what the call's own functions promise each other.
pub mod Questions
pub mod Charge
pub mod Steps
