-- Numbers as bytes.
pub mod Numbers
