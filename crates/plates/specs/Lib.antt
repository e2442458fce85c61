pub mod Lines
pub mod Texts
pub mod Replies
pub mod Fits
pub mod Checked
