pub mod inner
pub mod ErrorFaults
pub mod FaultLines
pub mod Serving
pub mod PartRuns
pub mod ServeFaults
