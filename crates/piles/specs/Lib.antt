pub mod Nothing
pub mod NothingLaws
