-- What no contract of a public function names.
pub mod Lines
pub mod Taking
