pub mod Reads
pub mod Streams
