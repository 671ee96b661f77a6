pub mod GoingOnLemmas
pub mod AnswerLemmas
pub mod PartLemmas
pub use Rattle.run_phases.proofs.BoardLemmas
