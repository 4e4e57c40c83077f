-- Laws of levels that repeat, and of all levels, built or checked.
pub mod Same
pub mod Stack
pub mod Built
pub mod Repeat
