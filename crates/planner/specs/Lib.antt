-- What Plan answers and what it leaves in the areas. How the frames lie in them: the crate layout.
pub mod Limits
pub mod Questions
pub mod Plan
