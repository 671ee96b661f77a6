pub mod inner
pub mod Working
pub mod Tasks
