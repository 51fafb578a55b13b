-- Laws of Mark: its questions, its search in the areas of a run, and what it answers; and what a verdict says of the level at
-- each time.
pub mod Laddered
pub mod Searching
pub mod Marked
pub mod Spans
