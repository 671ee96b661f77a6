mod Lines
mod MarkRows
