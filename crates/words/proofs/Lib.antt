-- One frame of the filter; the filter of a net; the filter again.
pub mod Keeping
pub mod Filtering
pub mod Again
