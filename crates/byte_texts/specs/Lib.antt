pub mod inner
pub mod Labels
pub mod UntilEnd
pub mod Writing
