pub mod Options
pub mod Words
pub mod Faults
pub mod Opened
