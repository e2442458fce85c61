pub mod Texts
pub mod Fields
pub mod Places
pub mod Bad
pub mod Many
