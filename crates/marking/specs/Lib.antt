-- What Mark answers, and what it leaves in the areas: Questions, Mark; the verdict itself is in the crate expectations. When
-- an expectation is met, and which is the first that is not, by what is to hold at each time: Met.
-- Steps is no part of that: it holds what Mark's own functions promise each other.
pub mod Questions
pub mod Mark
pub mod Met
pub mod Steps
