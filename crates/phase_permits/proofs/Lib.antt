pub mod Keeping
pub mod LastLemmas
pub mod LookLemmas
pub mod PermitLemmas
pub mod RightLemmas
pub mod StashedLemmas
pub mod UntouchedLemmas
