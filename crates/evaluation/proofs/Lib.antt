-- Laws of evaluation: raw words, the places of nets in the areas, gate by gate, and the values area as a whole.
pub mod Making
pub mod Writing
pub mod Driving
pub mod Placing
pub mod Valued
pub mod Readying
pub mod Gating
