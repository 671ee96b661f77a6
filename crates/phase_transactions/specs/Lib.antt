pub mod inner
pub mod Txns
pub mod Works
pub mod Workers
pub mod WorkerFields
pub mod Putting
pub mod Performing
