-- Laws of the entries of one relation: one by one, counted, and that they are those of a sequence.
pub mod Meeting
pub mod Went
pub mod Emitting
pub mod Hits
