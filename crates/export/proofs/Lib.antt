-- Mark on expectations that come as bytes.
pub mod Marking
