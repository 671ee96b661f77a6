-- What no contract of a public function names.
pub mod Passing
pub mod Grants
pub mod Steps
pub mod GrantViews
pub mod Rule
