pub mod Machine
pub mod Lines
pub mod Form
pub mod Standing
