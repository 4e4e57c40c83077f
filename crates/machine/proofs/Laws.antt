pub mod Stages
pub mod Steps
pub mod Lines
pub mod Form
