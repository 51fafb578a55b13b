-- Laws of questions 13 and 22, and what planning within a limit leaves.
pub mod Last
pub mod Within
