-- The lemmas of this crate that proofs of other crates may cite.
pub use Rattle.cluster_width.proofs.SpaceMeasureLemmas.{measure-nil, measure-space, measure-spaces_before, one_character}
pub use Rattle.comfy_parts.proofs.AbsentByteLemmas.{HasNo-append, HasNo-parts, encoded_clear}
pub use Rattle.comfy_parts.proofs.BreakLemmas.{HasNo-visible, breaks_are_visible, sequence_clear}
pub use Rattle.comfy_parts.proofs.ClearLineLemmas.{IsAsMeasured, clear_written}
pub use Rattle.comfy_parts.proofs.ClusterFitLemmas.{fitting-parts}
pub use Rattle.comfy_parts.proofs.DigitLemmas.{digits, none_where, some_where}
pub use Rattle.comfy_parts.proofs.EscapedLemmas.{clear_lines, none_by_characters, none_of_control, unlike}
pub use Rattle.comfy_parts.proofs.FrameCharacterLemmas.{frame_adds, frame_apart, one_column_characters}
pub use Rattle.comfy_parts.proofs.FrontLemmas.{parts-clear}
pub use Rattle.comfy_parts.proofs.KeptLemmas.{lines_keep_the_text}
pub use Rattle.comfy_parts.proofs.LineTextLemmas.{Shows-visible, none_open, visible-closed}
pub use Rattle.comfy_parts.proofs.LinesFitLemmas.{IsFittingLine}
pub use Rattle.comfy_parts.proofs.ListLemmas.{All-at, All-every, All-flat_map, All-found, All-given, All-join_by, All-none, All-of_map, All-others, All-same_map, AllZip-append, AllZip-join_by, AllZip-map, AllZip-map_map, AllZip-take, At-or, At-or-both, enumerated_all, enumerated_more, every-always, every-append, every-both, every-each_part, every-filter, every-first, every-flat_map, every-map, every-parts, every-places, every-second, every-weaker, every_kept, every_shows_one, filter-places, filter_all, filtered_all, filtered_more, index-map, index-places, join_by-map, join_by_more, join_by_push, joined_all, joined_more, length-filter_places, map-places, only_one, repeat_more, set-places, zip-nil}
pub use Rattle.comfy_parts.proofs.OpenTextLemmas.{OpensNone, IsScannedAlone, none-after, opens-alone, opens-append, opens-clear, opens-reset, opens-spaced, alone-append, alone-clear, alone-closed, alone-visible, alone-sequence}
pub use Rattle.comfy_parts.proofs.PlaceLemmas.{head-utf8, scalars-parts}
pub use Rattle.comfy_parts.proofs.PrintableTextLemmas.{IsPrintableLine, lines_of_text-printable, slices-printable}
pub use Rattle.comfy_parts.proofs.PrintableLemmas.{IsUtf8-printable, ascii-printable, below_seven_bits, head-printable, measure-printable, take-printable}
pub use Rattle.comfy_parts.proofs.ScanLemmas.{AreScanned, bytes_of, scan}
pub use Rattle.comfy_parts.proofs.SequenceLemmas.{BeginsWithSequence, IsSequence, begins_with_sequence, front_of, parts-sequence, parts-visible, sequence_len-sequence}
pub use Rattle.comfy_parts.proofs.ShownLemmas.{Shows, Shows-append, Shows-byte, Shows-clear, Shows-nil, Shows-sequence, visible_text-is}
pub use Rattle.comfy_parts.proofs.ShrinkLemmas.{shrinking_keeps_lines}
pub use Rattle.comfy_parts.proofs.SliceLemmas.{scalar-printable}
pub use Rattle.comfy_parts.proofs.TextFitLemmas.{fitting_characters_fit, head-fitting, lines-agree, text_lines_fit}
pub use Rattle.comfy_parts.proofs.ValueLemmas.{no_fewer_columns}
pub use Rattle.comfy_parts.proofs.VisibleLineLemmas.{lines_closed, lines_resumed, lines_visible, visible_lines}
pub use Rattle.comfy_parts.proofs.VisibleWholeLemmas.{none_at_front, past_sequence, visible_text-whole}
pub use Rattle.comfy_parts.proofs.WholeLineLemmas.{head-splits, lines_of_text-each, lines_of_text-utf8}
pub use Rattle.comfy_parts.proofs.WholeTextLemmas.{line_of_whole}
pub use Rattle.comfy_parts.proofs.WrappedLemmas.{wrapped_is_wrapped}
