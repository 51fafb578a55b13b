-- What the wave program prints: Input takes its input apart, Lines is what it prints, Wave is the call.
-- Levels says that the levels in the lines are the machine's; Example is document 01's, byte by byte.
-- Steps is no part of that: it holds what the crate's own functions promise each other.
pub mod Input
pub mod Lines
pub mod Wave
pub mod Levels
pub mod Example
pub mod Steps
