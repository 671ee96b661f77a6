pub mod KeptLemmas
pub mod TellingLemmas
