pub mod BlankLemmas
pub mod BoundaryLemmas
pub mod BuiltLemmas
pub mod CleanCharacterLemmas
pub mod ColumnLemmas
mod ContentLemmas
pub mod CountLemmas
pub mod DecimalLawLemmas
mod DressedLemmas
mod ExpandedLemmas
pub mod FieldControlLemmas
pub mod FieldLemmas
pub mod FieldNeedLemmas
mod PairWidthLemmas
mod PieceLemmas
mod PlainRowLemmas
pub mod FittingLemmas
mod FlatLemmas
pub mod KeptFieldLemmas
pub mod KeptWidthLemmas
pub mod LeastLemmas
mod LimitLemmas
pub mod LineLemmas
pub mod MarkdownDrawingLemmas
pub mod MarkdownLineLemmas
pub mod MarkdownPartLemmas
pub mod MarkdownRowLemmas
pub mod MarkdownWidthLemmas
pub mod MarkedLemmas
pub mod OutputControlLemmas
pub mod OutputLemmas
pub mod ReachedLemmas
mod RecordTextLemmas
pub mod RowLemmas
pub mod SeenLemmas
pub mod SeparatorLemmas
mod ShownLemmas
pub mod SpacedLemmas
pub mod StraightLemmas
pub mod StyledLemmas
pub mod SummaryLemmas
pub mod TextLineLemmas
pub mod TextTableLemmas
pub mod NoWrapFieldLemmas
pub mod NoWrapLemmas
pub mod WholeColumnLemmas
pub mod WholeRowLemmas
pub mod WholeTableLemmas
mod WordLemmas
