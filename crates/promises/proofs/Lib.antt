pub mod AddedLemmas
pub mod ConditionLemmas
pub mod DrawnColumnLemmas
pub mod FittingLemmas
mod FittingTextLemmas
pub mod FrameLemmas
pub mod HeadlineLemmas
pub mod KeptLemmas
pub mod LevelLemmas
pub mod PieceLemmas
pub mod PlacedLemmas
pub mod PromiseLemmas
mod ResumedLemmas
pub mod RowLemmas
pub mod ShownLemmas
pub mod TableOfRowsLemmas
