pub mod inner
pub mod Rules
pub mod Serial
pub mod Serving
pub mod Faults
pub mod Splitting
