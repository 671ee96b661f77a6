-- What no contract of a public function names.
pub mod Ranking
pub mod Runs
