pub mod inner
pub mod Scripts
pub mod Marks
pub mod CommitIds
pub mod Texts
pub mod Orders
pub mod Checking
pub mod Taking
