-- Laws of the engine: Run's questions, and what a run leaves.
pub mod Accepted
pub mod After
pub mod Asking
pub mod Answering
