-- What Run answers, and what it leaves in the areas: Areas, Questions, Run.
-- What holds of the areas that an accepted Run leaves, and of Level and Count on them: After.
pub mod Areas
pub mod Questions
pub mod Run
pub mod After
