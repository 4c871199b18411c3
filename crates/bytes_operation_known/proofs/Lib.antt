-- Laws of the numbers of a WRITE or a FILL.
pub mod Laws
