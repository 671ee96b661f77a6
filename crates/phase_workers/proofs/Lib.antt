pub mod WorkLemmas
pub mod TaskLemmas
