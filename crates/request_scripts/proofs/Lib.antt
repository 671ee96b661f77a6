pub mod AppendLemmas
pub mod RequestLemmas
pub mod ScriptLemmas
