-- Laws of the check of a level: what is right at a position, and the first positions of numbers.
pub mod Right
pub mod Firsts
