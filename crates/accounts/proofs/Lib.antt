pub mod Tallies
pub mod Books
