-- The output for arguments is straight if no character takes more than one terminal column, or if there is no width.
use Rattle.std.proofs.Common.{◌≡◌, ℕ, false, List, [], Option, Some, None, is_some, refl, ◌∙◌}
use Rattle.comfy_parts.specs.Text.{Text}
use Rattle.csv_command.proofs.StyleLemmas.{parsed_style_is_one_column, parsed_style_without_controls}
use Rattle.csv_command.specs.Drawn.{layout_with}
use Rattle.csv_command.specs.declared.arguments.Invocation.{Invocation}
use Rattle.csv_command.specs.declared.arguments.Options.{Options}
use Rattle.csv_command.specs.declared.arguments.OutputContext.{OutputContext}
use Rattle.csv_tables.specs.Laws.{CharactersFitEachWidth}
use Rattle.csv_tables.specs.declared.options.Layout.{Layout}
use Rattle.promises.specs.Shown.{ShowsColumns}
use Rattle.promises.specs.Tables.{HasCharactersWithin}
use Rattle.csv_promises.proofs.DrawnLemmas.{IsPlainOutput}
use Rattle.csv_promises.proofs.DrawnLemmas as drawn
use Rattle.csv_promises.proofs.WrittenLemmas.{IsDrawnBy, by_extent, nothing, own_fields, same_columns, same_content}
use Rattle.csv_promises.specs.Counted.{IsCount}
use Rattle.csv_promises.specs.Straight.{EachField, FieldsFitTheirColumns, IsPlainField, IsStraight}
use Rattle.csv_promises.specs.Written.{IsWritten}

-- the output of a table that isn't for Markdown
module _ (arguments : List Text) (context : OutputContext) (invocation : Invocation) (input : Text) (records : List (List Text)) (output : Text) (is : IsWritten false arguments context invocation input records output) where
  abbrev options : Options
  options = invocation.options

  abbrev IsDrawn : Option ℕ → List (List Text) → Type 0
  IsDrawn = IsDrawnBy false arguments context invocation input records output is

  module _ (known : Option ℕ) (rs : List (List Text)) (by : IsDrawn known rs) where
    abbrev layout : Layout
    layout = layout_with options by.made.columns

    pub plain_output : IsPlainOutput known layout rs output
    plain_output =
        record {
          kind = is.kind;
          unkept = is.unkept;
          one_column = parsed_style_is_one_column arguments context invocation is.is_parsed;
          clear = parsed_style_without_controls arguments context invocation is.is_parsed;
          text = by.text;
          made = by.made.is_output;
        }

    own : (P : Text → Type 0) → EachField P records → EachField P rs
    own = own_fields false arguments context invocation input records output is known rs by

    narrow_law : EachField (HasCharactersWithin 1) records → IsStraight options records output
    narrow_law each = drawn.narrow_law known layout rs output plain_output (IsCount options records) records by.counted by.rows (own (HasCharactersWithin 1) each)

    whole_law : options.look.width ≡ None → options.look.max_height ≡ None → EachField IsPlainField records → IsStraight options records output
    whole_law no_width uncut each = drawn.whole_law known layout rs output plain_output (IsCount options records) records by.counted by.rows no_width uncut (own IsPlainField each)

    -- characters that have room for all records have room for these
    pub each_fits : FieldsFitTheirColumns options records → CharactersFitEachWidth known layout rs
    each_fits fit content table widths same drawn_so arranged = fit known by.made.columns (same_columns false arguments context invocation input records output is known rs by ∙ by.made.are_chosen) content table widths (same_content false arguments context invocation input records output is known rs by ∙ same) drawn_so arranged

    fitting_law : FieldsFitTheirColumns options records → IsStraight options records output
    fitting_law fit = drawn.fitting_law known layout rs output plain_output (IsCount options records) records by.counted by.rows (each_fits fit)

  no_line : records ≡ [] → output ≡ [] → IsStraight options records output
  no_line none empty = (0, nothing false arguments context invocation input records output is (ShowsColumns 0) none empty)

  -- no character takes more than one terminal column
  pub narrow_for : EachField (HasCharactersWithin 1) records → IsStraight options records output
  narrow_for each = by_extent false arguments context invocation input records output is (IsStraight options records output) no_line (λ known rs by. narrow_law known rs by each)

  -- there is no width, and no row is cut
  pub whole_for : options.look.width ≡ None → options.look.max_height ≡ None → EachField IsPlainField records → IsStraight options records output
  whole_for no_width uncut each = by_extent false arguments context invocation input records output is (IsStraight options records output) no_line (λ known rs by. whole_law known rs by no_width uncut each)

  -- each character of the fields has room in its column
  pub fitting_for : FieldsFitTheirColumns options records → IsStraight options records output
  fitting_for fit = by_extent false arguments context invocation input records output is (IsStraight options records output) no_line (λ known rs by. fitting_law known rs by fit)

-- an option that isn't `Some` is `None`
pub none_where : {A : Type 0} (o : Option A) → false ≡ is_some o → o ≡ None
none_where None is = refl
none_where (Some x) is = absurd (cc is)
