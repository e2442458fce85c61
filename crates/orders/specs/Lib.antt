pub mod Lines
pub mod Orders
pub mod Places
pub mod Replies
pub mod Printed
pub mod Judged
