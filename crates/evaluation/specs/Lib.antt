-- What the functions of this crate ask for and promise: the words of one row, of one gate, of all gates. An inner crate: a
-- reader of Run's promise may skip it.
pub mod Steps
