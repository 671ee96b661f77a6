-- What no contract of a public function names.
pub mod Parcels
pub mod Progress
pub mod Said
