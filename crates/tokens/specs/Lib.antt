pub mod Waiting
pub mod Slots
