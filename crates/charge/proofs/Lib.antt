-- Laws of the charge call: its questions (Laddered), what it answers and leaves (Charging), and that of a list which is too long for any
-- circuit a part that is too long answers the same (Long).
pub mod Laddered
pub mod Charging
pub mod Long
