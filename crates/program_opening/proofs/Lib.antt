pub mod ErrorLemmas
pub mod NumberWords
pub mod OpenedLogs
pub mod ProgramWords
