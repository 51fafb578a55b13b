-- Laws of Size and the fitted Run: their questions, what the fitted Run leaves, and what both have in common with Plan and Run.
pub mod Sizing
pub mod Asking
pub mod Answering
pub mod Same
