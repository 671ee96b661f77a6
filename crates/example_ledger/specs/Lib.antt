pub mod Model
pub mod Laws
pub mod Log
pub mod LogLaws
