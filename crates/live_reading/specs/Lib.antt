pub mod inner
pub mod LineBuffers
pub mod LiveLines
pub mod LiveParts
pub mod LiveReading
pub use Rattle.record_reading.specs.Reading
