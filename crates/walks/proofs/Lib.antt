-- Rules for proofs by hand: of an `if` and a loop (Walking), over the elements of a lent list (Places); of a `&mut [T]` that is
-- lent again or shared for good (Again, Shown); of an array whose first elements are lent (Lent); of a function's locals as one
-- entry of the context (Locals), its parameters as one list (Params), and what it leaves of them (Leaving); and the type of
-- times (Ticks).
pub mod Walking
pub mod Places
pub mod Again
pub mod Shown
pub mod Lent
pub mod Locals
pub mod Params
pub mod Leaving
pub mod Ticks
