-- What the functions of this crate ask for and promise: the frames of one gate. An inner crate: a reader of Plan's promise may
-- skip it.
pub mod Steps
