pub mod inner
pub mod Checking
