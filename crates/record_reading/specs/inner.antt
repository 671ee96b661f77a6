-- What no contract of a public function names.
pub mod PlainLines
pub mod QuotedFields
pub mod RecordsLeft
