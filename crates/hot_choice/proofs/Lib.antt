pub mod RunLemmas
pub mod HeatLemmas
pub mod RankLemmas
pub mod ChoiceLemmas
pub mod ChosenLemmas
