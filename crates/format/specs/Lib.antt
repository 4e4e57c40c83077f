pub mod Frames
pub mod Texts
