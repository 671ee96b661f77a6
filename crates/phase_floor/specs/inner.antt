-- What no contract of a public function names.
pub mod Kits
pub mod Parts
pub mod Rows
