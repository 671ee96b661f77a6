-- What no contract of a public function names.
pub mod Reading
pub mod MarkRows
pub mod Lateness
pub mod Replaying
