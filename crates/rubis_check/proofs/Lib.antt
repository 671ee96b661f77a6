pub mod CauseLemmas
pub mod FaultLemmas
pub mod FindingLemmas
pub mod OptionLemmas
