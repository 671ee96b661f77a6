pub mod inner
pub mod Dealing
pub mod Kinds
pub mod Replying
