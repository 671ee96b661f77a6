pub mod Phases
pub mod Turns
pub mod Serving
pub mod Run
pub mod Books
pub mod Answers
