-- What no contract of a public function names.
pub mod Closed
pub mod Running
pub mod Serving
pub mod Plans
