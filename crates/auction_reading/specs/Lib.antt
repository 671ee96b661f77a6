pub mod inner
pub mod Scripts
pub use Rattle.record_reading.specs.Reading
pub use Rattle.record_reading.specs.declared.record.Record
