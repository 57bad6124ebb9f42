pub mod ProgramLemmas
pub mod RowLemmas
pub mod RunLemmas
