pub mod AddedRules
pub mod NumberOptions
pub mod Numerals
pub mod OneRule
pub mod Parsed
pub mod WordLemmas
