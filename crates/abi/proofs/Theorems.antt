pub mod Determined
pub mod Exact
