pub mod Stock
pub mod Fillings
pub mod Writing
pub mod Positions
pub mod Meaning
