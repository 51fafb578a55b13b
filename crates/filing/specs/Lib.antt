-- What a call that writes a circuit file answers and leaves.
pub mod Filed
