pub mod inner
pub mod Published
