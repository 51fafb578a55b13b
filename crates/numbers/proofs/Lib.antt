-- Laws on numbers as bytes.
pub mod Bytes
