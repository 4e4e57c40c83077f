-- What holds of upper-case hexadecimal, for the crates that read and write it.
pub mod Digit
pub mod Reading
pub mod Writing
pub mod RoundTrip
