pub mod Worth
pub mod Choice
pub mod Limits
pub mod Turns
pub mod Plain
pub mod Recursion
pub mod Calls
pub mod Numbers
