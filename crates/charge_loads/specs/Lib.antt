-- What the charges of a load must be (Suits), and the charges that kept changes draw, with their sum (Charges).
-- Steps is no part of that: it holds what the functions of this crate promise.
pub mod Suits
pub mod Charges
pub mod Steps
