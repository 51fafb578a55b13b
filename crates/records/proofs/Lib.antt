-- Laws of expectations as bytes.
pub mod Recorded
