pub mod Decide
pub mod Scan
pub mod Judging
pub mod Stuck
pub mod Wheel
pub mod Held
