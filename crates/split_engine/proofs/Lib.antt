pub mod Splits
pub mod Works
mod Zips
mod Pieces
mod KeptSlices
mod States
mod Ends
mod Sessions
pub mod Counts
