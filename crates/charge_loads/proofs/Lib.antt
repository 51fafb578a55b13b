-- Laws of loads: the nets that a list of them suits (Listed), the charges added up (Added), what is drawn as often as Count counts
-- (Counted), and examples.
pub mod Listed
pub mod Added
pub mod Counted
mod Examples
