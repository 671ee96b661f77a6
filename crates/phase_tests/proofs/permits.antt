pub mod AnswerLemmas
pub mod ClosedLemmas
pub mod HotLemmas
pub mod KeyLemmas
