-- What no contract of a public function names.
pub mod Reading
