pub mod inner
pub mod States
pub mod Floors
pub mod Begins
pub mod Closings
pub mod Resuming
pub mod NextRun
pub mod Adding
