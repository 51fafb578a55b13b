-- What a circuit is, the method of potential-change frames, the time-by-time machine, and what holds between them.
-- A circuit and what drives it.
pub mod Kinds
pub mod Refusals
pub mod Circuit
pub mod Nets
pub mod Times
pub mod Stimulus
pub mod Changes
-- The method: indices, frames, values, and what is read off them.
pub mod Indices
pub mod Frames
pub mod Filter
pub mod Traces
pub mod Look
pub mod Limits
-- How all frames lie in areas, and what is summed over them.
pub mod Areas
pub mod Layout
pub mod Rows
pub mod Sums
pub mod First
-- The machine that knows none of these.
pub mod Machine
-- 64 lanes in a word.
pub mod Words
pub mod WordLists
pub mod Packed
pub mod Values
-- What holds: proved under proofs/.
pub mod Bench
pub mod Parity
pub mod Netwise
pub mod Agreement
pub mod Lanes
pub mod Pulses
pub mod Bursts
-- One change at 1: the rules as they were before inputs could change more than once.
pub mod Once
