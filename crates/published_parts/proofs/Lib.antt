pub mod Prefixes
pub mod Adding
pub mod Growing
pub mod CopyLemmas
