-- Text as bytes (Text), and what it is to write it to a buffer (Wrote).
pub mod Text
pub mod Wrote
