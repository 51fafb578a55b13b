-- What a run behind its questions asks for and promises. An inner crate: a reader of Run's promise may skip it.
pub mod Simulated
