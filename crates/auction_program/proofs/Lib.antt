pub mod Answering
pub mod OneAnswer
pub mod ViewLemmas
pub mod WrittenLemmas
