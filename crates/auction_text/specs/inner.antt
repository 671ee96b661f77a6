-- What no contract of a public function names.
pub mod Putting
pub mod Turns
pub mod Workers
