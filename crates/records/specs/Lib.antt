-- Expectations as bytes.
pub mod Records
