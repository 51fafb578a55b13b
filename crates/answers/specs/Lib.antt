-- The answers of the calls in numbers (Numbers), and why 0 can stand for no end (Ends).
pub mod Numbers
pub mod Ends
