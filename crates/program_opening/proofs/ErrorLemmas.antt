-- A result that is this error.
pub use Rattle.part_log.proofs.TellingLemmas.{error_is}
