pub mod BookLemmas
pub mod RowLemmas
