-- What no contract of a public function names.
pub mod Asked
pub mod Entries
pub mod HeadLists
pub mod Phases
pub mod Places
pub mod Sides
