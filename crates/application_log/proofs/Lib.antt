mod LineLemmas
mod LogLemmas
