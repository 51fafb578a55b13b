-- The conditions of purchase: Demands has every sentence as a statement. Answers, Runs and Marks are the words in which it
-- speaks: how questions are answered, what an accepted run is, and when an expectation is met. Spans says until when a
-- level holds, which request P1 asks for; Once that one change at 1 is the old stimulus, which request P5 asks for; Limits
-- that within its limit a call is that of the full course, which request P8 asks for; Pulses that no gate passes a pulse as
-- short as its inertial delay, which request P9 asks for.
pub mod Answers
pub mod Runs
pub mod Marks
pub mod Demands
pub mod Spans
pub mod Once
pub mod Limits
pub mod Pulses
