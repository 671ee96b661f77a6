pub mod Blank
pub mod Placed
pub mod Views
pub mod Acts
pub mod Merges
pub mod Clocks
