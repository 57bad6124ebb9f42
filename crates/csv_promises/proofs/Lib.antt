mod AtLeastLemmas
pub mod ColumnLemmas
pub mod FrameLemmas
mod MarkdownLemmas
mod MessageLemmas
mod TwoColumnCharacterLemmas
mod TwoColumnLemmas
mod TwoColumnTableLemmas
pub mod WideTextLemmas
pub mod WidthLemmas
mod WrappedCharacterLemmas
mod WholeLemmas
pub mod BoldLemmas
pub mod ExpandedLemmas
pub mod FieldLemmas
pub mod HarmlessLemmas
pub mod LineLemmas
pub mod OutputFieldLemmas
pub mod OutputLemmas
pub mod PositionLemmas
pub mod RecordLemmas
pub mod ResultLemmas
pub mod ShownTableLemmas
pub mod SpacedLemmas
pub mod StraightLemmas
pub mod WrittenLemmas
pub mod DrawnLemmas
pub mod DrawnColumnLemmas
pub mod DrawnWidthLemmas
