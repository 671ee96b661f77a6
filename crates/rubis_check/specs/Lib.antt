pub mod Causes
pub mod Faults
pub mod Finding
pub mod ShortLines
pub mod VerdictLines
pub mod Words
