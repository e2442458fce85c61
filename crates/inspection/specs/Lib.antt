pub mod Directions
pub mod Groups
pub mod Verdicts
pub mod Soundness
pub mod Pinwheel
