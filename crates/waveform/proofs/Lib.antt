-- Laws of what the wave program prints: the input and its words (Taking), lines read off the areas (Lining), how long a text
-- can be (Lengths), the answer (Answering) and the page (Paging). Levels says that the levels are the machine's, Example
-- that document 01's example is printed.
pub mod Taking
pub mod Lining
pub mod Levels
pub mod Lengths
pub mod Answering
pub mod Paging
pub mod Example
