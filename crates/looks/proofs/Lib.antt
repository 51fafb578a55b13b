-- Laws of Level and Count: their questions, each frame beside the next, what is seen at a frame, a net's parts, and that a level
-- holds from its frame's begin to its end.
pub mod Pairs
pub mod Seeing
pub mod Sighting
pub mod Parting
pub mod Holding
