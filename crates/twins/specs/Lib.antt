pub mod Marks
pub mod Halves
pub mod Skips
pub mod Rows
pub mod Chains
pub mod Standing
pub mod Held
pub mod Props
