pub mod Accounts
pub mod Books
