pub mod Pieces
pub mod Examples
pub mod BadFrame
