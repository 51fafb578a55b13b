-- Laws of loads as plain numbers.
pub mod Numbered
