pub mod NewShards
pub mod Permits
