-- Laws of the one reader.
pub mod Choices
pub mod Laws
