-- Laws of expectations: the tests of the functions (Judging), and what the turns of the loops know (Turns).
pub mod Judging
pub mod Turns
