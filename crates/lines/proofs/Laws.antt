pub mod Asking
pub mod Building
pub mod Turns
pub mod Feeding
pub mod Ending
