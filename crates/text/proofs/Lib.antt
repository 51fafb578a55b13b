-- Laws of text in a buffer: what was written (Putting), numbers, frames and refusals (Spelling), and that decimals read back
-- (Reading).
pub mod Putting
pub mod Spelling
pub mod Reading
