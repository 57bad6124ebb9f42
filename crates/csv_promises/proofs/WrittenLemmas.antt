-- The output for arguments is drawn of all records of an input, or of the first ones.
use Rattle.std.proofs.Common.{ap, ap₂, length, ◌<◌, ◌≡◌, inl, ℕ, Bool, List, [], ◌∷◌, map, Option, Some, None, unwrap_or, append-nil, refl, sym, ◌∙◌, subst, inr, ◌++◌}
use Rattle.std.specs.List.{All}
use Rattle.std.proofs.lemmas.List.Elements.{All-cons, All-head, All-nil, All-tail}
use Rattle.comfy_parts.specs.Text.{Text}
use Rattle.csv.specs.Records.{AllText}
use Rattle.csv_command.proofs.RunLemmas.{beginning_parts}
use Rattle.csv_command.specs.Columns.{columns_by, columns_for}
use Rattle.csv_command.specs.Drawn.{IsDrawnOf, RendersChosen, RendersCounted, layout_with, most_drawn}
use Rattle.csv_command.specs.declared.arguments.Invocation.{Invocation}
use Rattle.csv_command.specs.declared.arguments.Options.{Options}
use Rattle.csv_command.specs.declared.arguments.OutputContext.{OutputContext}
use Rattle.csv_records.proofs.BeginningLemmas.{first_records_stay}
use Rattle.csv_records.proofs.OneRecordLemmas.{read_is_one}
use Rattle.csv_records.specs.Beginning.{whole_lines}
use Rattle.csv_records.specs.Reading.{AreRecordsFor}
use Rattle.csv_tables.specs.Columns.{count_of, drawn_columns, filled_count, seen}
use Rattle.csv_tables.specs.Drawn.{SelectedValue, count_below, drawn_rows, limited, names_of, records_below, selected_of}
use Rattle.devices.specs.Outcome.{tested_front}
use Rattle.csv_promises.proofs.LineLemmas.{nothing_written}
use Rattle.csv_promises.proofs.RecordLemmas.{AreDrawnFirst, first_are_drawn}
use Rattle.csv_promises.specs.Counted.{EachDrawnLine, IsCount}
use Rattle.csv_promises.specs.Straight.{EachField}
use Rattle.csv_promises.specs.Written.{IsWritten}

-- a property of all elements is one of the first ones
All-front : {A : Type 0} (P : A → Type 0) (xs ys : List A) → All P (xs ++ ys) → All P xs
All-front P [] ys all = All-nil P
All-front P (x ∷ xs) ys all = All-cons P x xs (All-head P x (xs ++ ys) all) (All-front P xs ys (All-tail P x (xs ++ ys) all))

module _ (is_markdown : Bool) (arguments : List Text) (context : OutputContext) (invocation : Invocation) (input : Text) (records : List (List Text)) (output : Text) (is : IsWritten is_markdown arguments context invocation input records output) where
  abbrev options : Options
  options = invocation.options

  abbrev h : Bool
  h = options.selection.has_header

  texts : All AllText records
  texts = is.are.are_records.are_records.are_text

  -- the output is drawn of these records, which are all records, or at least as many as are drawn
  pub record IsDrawnBy (known : Option ℕ) (rs : List (List Text)) : Type 0 where
    pub text : All AllText rs
    pub made : RendersChosen known options rs output
    pub more : List (List Text)
    pub front : records ≡ rs ++ more
    pub names : names_of h rs ≡ names_of h records
    pub rows : drawn_rows options.selection rs ≡ drawn_rows options.selection records
    pub counted : IsCount options records known

  -- the output is empty without records, and otherwise drawn in this way
  pub by_extent : (Good : Type 0) → (records ≡ [] → output ≡ [] → Good) → ((known : Option ℕ) (rs : List (List Text)) → IsDrawnBy known rs → Good) → Good
  by_extent Good empty law = by_made is.made
    where
      any : (rs : List (List Text)) → records ≡ rs → RendersCounted options rs output → Good
      any [] same nothing = empty same nothing
      any (r ∷ rs) same drawn =
          law (Some (count_below options.selection (r ∷ rs))) (r ∷ rs)
          (record { text = subst (All AllText) same texts; made = drawn; more = []; front = same ∙ sym (append-nil (r ∷ rs)); names = ap (names_of h) (sym same); rows = ap (drawn_rows options.selection) (sym same); counted = ap (count_below options.selection) (sym same) })

      by_made : IsDrawnOf options input output → Good
      by_made (inl (none, made)) = any records refl (subst (λ (rs : List (List Text)). RendersCounted options rs output) (read_is_one options.input input made.records records made.are_records is.are) made.is_output)
      by_made (inr (n, tested, made)) =
          let beginning = whole_lines (tested_front n input) in
          let parts = beginning_parts n input in
          let enough = made.are_enough in
          let limit = enough.has_limit.limit in
          let found = first_records_stay options.input (most_drawn h limit) beginning parts.0 made.records records enough.are (subst (λ (t : Text). AreRecordsFor options.input t records) parts.1 is.are) in
          let first : AreDrawnFirst h limit made.records records = subst (AreDrawnFirst h limit made.records) (sym found.1) (first_are_drawn h limit made.records found.0 enough.are.more) in
          law None made.records
          (record {
            text = enough.are.are_records.are_records.are_text;
            made = made.is_output;
            more = found.0;
            front = found.1;
            names = first.names;
            rows = subst (λ (l : Option ℕ). limited l (records_below h made.records) ≡ limited l (records_below h records)) (sym enough.has_limit.is) first.rows;
            counted = (enough.has_limit.uncounted, subst (λ (l : Option ℕ). length (limited l (records_below h records)) < length (records_below h records)) (sym enough.has_limit.is) first.fewer);
          })

  -- without records no line is drawn
  pub nothing : (P : Text → Type 0) → records ≡ [] → output ≡ [] → EachDrawnLine P options records output
  nothing P none empty =
      subst (λ (rs : List (List Text)). EachDrawnLine P options rs output) (sym none) (subst (EachDrawnLine P options []) (sym empty) (nothing_written P options))

  module _ (known : Option ℕ) (rs : List (List Text)) (by : IsDrawnBy known rs) where
    -- a property of all fields is one of those that are drawn
    pub own_fields : (P : Text → Type 0) → EachField P records → EachField P rs
    own_fields P each = All-front (All P) rs by.more (subst (All (All P)) by.front each)

    -- the same columns are chosen of the records that are read and of all records, and the same is drawn of them
    pub same_columns : columns_for options records ≡ columns_for options rs
    same_columns =
        ap₂ (λ (names : Option (List Text)) (rows : List (List Text)). columns_by options.columns (unwrap_or names []) (record { all = count_of (unwrap_or names []) rows; filled = filled_count (unwrap_or names []) rows })) (sym by.names) (sym by.rows)

    pub same_content : selected_of known (layout_with options by.made.columns) records ≡ selected_of known (layout_with options by.made.columns) rs
    same_content =
        ap₂ (λ (names : Option (List Text)) (rows : List (List Text)). let content : SelectedValue = record { names = names; rows = rows; columns = drawn_columns by.made.columns (map (seen options.look.has_sequences) rows); count = known; is_numbered = options.selection.is_numbered; noun = options.selection.noun } in content)
        (sym by.names) (sym by.rows)
