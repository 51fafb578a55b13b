-- What the functions that give an answer say, with what a call says of its answer and areas (Given); no frame ends at 0 (Ends).
pub mod Given
pub mod Ends
