-- What the functions of this crate ask for and promise. An inner crate: a reader of Size's promise may skip it.
pub mod Steps
