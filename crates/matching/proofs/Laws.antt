pub mod Matching
pub mod Places
pub mod Found
