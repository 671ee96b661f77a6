pub mod inner
pub mod Shards
pub mod Making
pub mod Writing
pub mod Merging
