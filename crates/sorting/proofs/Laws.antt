-- Laws of starts and order: the counting sort, the largest number of a table, and the first difference of two lists.
pub mod Front
pub mod Sorting
pub mod Numbers
pub mod Difference
