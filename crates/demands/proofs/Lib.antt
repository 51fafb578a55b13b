-- The conditions of purchase, proved: how questions are answered, what an accepted run leaves, when a marking passes, and what
-- two runs have in common.
pub mod Deciding
pub mod Holding
pub mod Meeting
pub mod Alike
pub mod Demands
pub mod Spans
pub mod Once
pub mod Limits
pub mod Pulses
