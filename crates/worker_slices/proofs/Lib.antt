pub mod FewLemmas
pub mod Places
pub mod RowSlices
pub mod SlicedLemmas
pub mod StashLemmas
pub mod StockLemmas
pub mod GuessLemmas
