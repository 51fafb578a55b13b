-- What is seen of a net at a frame (Sight), what Level and Count ask of one net's parts and what they answer (Look), and what it
-- says that a level holds from a frame's begin to its end (Holds).
pub mod Sight
pub mod Look
pub mod Holds
