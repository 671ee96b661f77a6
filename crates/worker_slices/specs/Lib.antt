pub mod Stashes
pub mod Slicing
pub mod Counting
pub mod Homes
pub mod Guessing
