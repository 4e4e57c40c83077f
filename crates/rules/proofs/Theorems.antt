-- What is promised of the definitions, each stated for a reader who holds document 01 in the other hand.
pub mod Determined
pub mod Meaning
pub mod Acceptance
pub mod AllOrNone
pub mod Stored
pub mod ClassAnswer
pub mod Builder
pub mod Edges
pub mod Classes
pub mod Tables
pub mod Lists
pub mod Entries
pub mod Examples
pub mod Errors
pub mod Orders
pub mod Limits
pub mod Tokens
