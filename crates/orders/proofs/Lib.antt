mod LineParts
mod Whole
mod Spots
mod Unique
mod Sums
