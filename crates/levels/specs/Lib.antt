pub mod Repeat
pub mod Needs
