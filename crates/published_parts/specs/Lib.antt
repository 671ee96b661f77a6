pub mod inner
pub mod Parts
pub mod Views
