pub mod Packed
pub mod Written
