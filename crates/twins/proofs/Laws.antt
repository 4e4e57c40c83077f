-- Laws of step marks, connected pairs, midpoints and agreement.
pub mod Bits
pub mod Marks
pub mod Tables
pub mod Areas
pub mod Agreement
pub mod Halves
pub mod Below
pub mod Skips
pub mod Reach
pub mod Rows
pub mod Signature
pub mod Midpoints
