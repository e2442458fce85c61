pub mod Codes
pub mod Numerals
mod Words
pub mod Parts
pub mod Many
pub mod Forms
