pub mod AddedLemmas
pub mod ReceiptLemmas
