-- Laws of numbers of two bytes.
pub mod Words
