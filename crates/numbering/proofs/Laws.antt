-- Laws of the chains and the numbering of a level, and of what is kept of the area.
pub mod Numbers
pub mod Level
pub mod Chains
pub mod Walk
pub mod Taken
pub mod Turn
pub mod Aside
