pub mod Fronts
pub mod Counts
pub mod Edges
pub mod Top
