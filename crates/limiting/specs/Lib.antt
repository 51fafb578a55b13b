-- Questions 13 and 22, and what planning answers and leaves. How the frames lie in the areas: `method/specs/Layout`.
pub mod Questions
pub mod Planned
