-- What no contract of a public function names.
pub mod Assignments
pub mod Kept
pub mod Listed
pub mod Phases
pub mod Commits
