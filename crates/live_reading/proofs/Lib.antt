pub mod LineBufferLemmas
pub mod LiveLineLemmas
pub mod LivePartLemmas
pub mod LiveTakingLemmas
pub mod MarkLemmas
pub mod SkippingLemmas
pub mod TakingLemmas
