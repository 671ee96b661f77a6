pub mod inner
pub mod Asking
pub mod Causes
pub mod Fields
pub mod Kinds
pub mod Lines
pub mod Reading
pub mod Records
