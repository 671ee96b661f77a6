pub mod inner
pub mod Journals
pub mod Shown
pub mod Answers
pub mod Merged
pub mod Histories
pub mod Rising
