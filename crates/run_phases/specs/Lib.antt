pub mod inner
pub mod Phases
pub mod Beginning
pub mod Outcomes
pub mod Boards
