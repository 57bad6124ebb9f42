-- The output for arguments keeps to their width.
use Rattle.std.proofs.Common.{◌⊎◌, inl, inr, ◌≡◌, ◌==◌, ℕ, ◌+◌, false, not, List, [], Option, Some, length, unwrap_or, ap, ap₂, ◌∙◌, subst}
use Rattle.std.specs.Prelude.{if◌then◌else◌}
use Rattle.comfy_parts.specs.Text.{Text}
use Rattle.csv_command.specs.Drawn.{layout_with}
use Rattle.csv_command.specs.declared.arguments.Invocation.{Invocation}
use Rattle.csv_command.specs.declared.arguments.Options.{Options}
use Rattle.csv_command.specs.declared.arguments.OutputContext.{OutputContext}
use Rattle.csv_tables.specs.Drawn.{drawn_rows}
use Rattle.csv_tables.specs.Laws.{CharactersFitEachWidth}
use Rattle.promises.specs.Tables.{HasCharactersWithin}
use Rattle.csv_promises.proofs.ColumnLemmas.{are_below, counted, some_position}
use Rattle.csv_promises.proofs.DrawnWidthLemmas.{keep}
use Rattle.csv_promises.proofs.StraightLemmas.{each_fits, plain_output}
use Rattle.csv_promises.proofs.WideTextLemmas.{two_fit_columns}
use Rattle.csv_promises.proofs.WrittenLemmas.{IsDrawnBy, by_extent, nothing, own_fields}
use Rattle.csv_promises.specs.Counted.{EachDrawnLine, IsCount}
use Rattle.csv_promises.specs.Fields.{positions_in}
use Rattle.csv_promises.specs.Straight.{EachField}
use Rattle.csv_promises.specs.WideTexts.{HaveRoomEach}
use Rattle.csv_promises.specs.Width.{KeepsTo, columns_by, frame_room, framed_columns, framed_columns_in}
use Rattle.csv_promises.specs.Written.{IsWritten}

module _ (arguments : List Text) (context : OutputContext) (invocation : Invocation) (input : Text) (records : List (List Text)) (output : Text) (is : IsWritten false arguments context invocation input records output) where
  abbrev options : Options
  options = invocation.options

  pub keeps_width : (w : ℕ) → options.look.width ≡ Some w → HaveRoomEach options.look.width (framed_columns options records) records → EachDrawnLine (KeepsTo w (frame_room (framed_columns options records)) options.look.fills_width) options records output
  keeps_width w wide room = by_extent false arguments context invocation input records output is (Good frame) (nothing false arguments context invocation input records output is (KeepsTo w frame options.look.fills_width)) drawn_by
    where
      frame : ℕ
      frame = frame_room (framed_columns options records)

      Good : ℕ → Type 0
      Good f = EachDrawnLine (KeepsTo w f options.look.fills_width) options records output

      framed : Option (List Text) → List (List Text) → ℕ
      framed names rows =
          frame_room (columns_by options.look.expansion (not (length rows == 0)) (length (positions_in options (unwrap_or names []) rows) + (if options.selection.is_numbered then 1 else 0)))

      fits : (known : Option ℕ) (rs : List (List Text)) (by : IsDrawnBy false arguments context invocation input records output is known rs) → HaveRoomEach options.look.width (framed_columns options records) records
          → EachField (HasCharactersWithin 1) rs ⊎ CharactersFitEachWidth known (layout_with options by.made.columns) rs
      fits known rs by (inl narrow) = inl (own_fields false arguments context invocation input records output is known rs by (HasCharactersWithin 1) narrow)
      fits known rs by (inr (two, has_room)) = inr (each_fits arguments context invocation input records output is known rs by (two_fit_columns arguments context invocation input records output is two has_room))

      drawn_by : (known : Option ℕ) (rs : List (List Text)) → IsDrawnBy false arguments context invocation input records output is known rs → Good frame
      drawn_by known rs by =
          let columns = by.made.columns in
          let kept =
          keep w known (layout_with options columns) rs output wide (plain_output arguments context invocation input records output is known rs by) (fits known rs by room)
          (some_position options rs columns by.made.are_chosen) (are_below options rs columns by.made.are_chosen) (IsCount options records) records by.counted by.rows in
          let own_frame = λ (n : ℕ). frame_room (columns_by options.look.expansion (not (length (drawn_rows options.selection rs) == 0)) n) in
          let same_frame : frame_room (framed_columns_in (layout_with options columns) rs) ≡ frame = ap own_frame (counted options rs columns by.made.are_chosen) ∙ ap₂ framed by.names by.rows in
          subst Good same_frame kept
