pub mod Standing
pub mod Phases
pub mod Histories
pub mod Merging
pub mod Lawful
pub mod Example
