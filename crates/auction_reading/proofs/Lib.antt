pub mod JoinLemmas
pub mod ParcelLemmas
pub mod PieceLemmas
pub mod ProgressLemmas
pub mod RowsFirst
pub mod SaidLemmas
pub mod SoFar
