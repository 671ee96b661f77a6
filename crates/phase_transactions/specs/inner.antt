-- What no contract of a public function names.
pub mod Asking
pub mod Begun
pub mod Deeds
pub mod Homes
pub mod Takens
pub mod Viewing
pub mod HeldShards
pub mod Storing
