pub mod Links
pub mod Orders
