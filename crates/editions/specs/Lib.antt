-- The circuit file in its two editions: what its bytes mean, the reader's questions, the limits of a circuit, and the file of a
-- circuit; and where a gate's bytes lie.
pub mod Edition
pub mod File
pub mod Limits
pub mod Questions
pub mod Encode
pub mod Faithful
pub mod Lies
