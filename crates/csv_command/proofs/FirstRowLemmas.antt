-- The first records of an input, at most as many as are drawn, have the same drawing as all records.
use Rattle.std.proofs.Common.{◌≡◌, ◌≢◌, ◌<◌, ◌≤◌, ◌+◌, ◌-◌, ◌^◌, ℕ, suc, Bool, true, false, List, [], ◌∷◌, Option, Some, None, IfNone, IfSome, Result, drop, length, map, option_map, take, refl, sym, ap, ap₂, ◌∙◌, subst, arith, unwrap_or}
use Rattle.std.specs.List.{slice_get}
use Rattle.std.specs.Prelude.{if◌then◌else◌}
use Rattle.std.proofs.lemmas.List.{length-take}
use Rattle.std.proofs.lemmas.List.Sums.{count_by-le-length}
use Rattle.std.specs.List.{count_by}
use Rattle.comfy_parts.specs.Text.{Text}
use Rattle.csv_records.proofs.FirstLemmas.{all_of_few}
use Rattle.csv_records.proofs.WholeLineLemmas.{whole_length}
use Rattle.csv_records.specs.Beginning.{AreFirstByBeginning, IsEnough, NoneAreEnough, is_line_feed, whole_lines}
use Rattle.csv_records.specs.Encoding.{IsDecoded}
use Rattle.csv_records.specs.Reading.{AreRecordsFor, AreRecordsIn, IsDecodedBy}
use Rattle.csv_records.specs.declared.encoding.Encoding.{Encoding}
use Rattle.csv_command.specs.Columns.{ColumnFault, IsColumnsRefusal, columns_by, columns_for}
use Rattle.csv_tables.specs.Drawn.{SelectedValue, selected_of, drawn_rows, limited, names_of, records_below}
use Rattle.csv_tables.specs.Columns.{ColumnsValue, count_of, drawn_columns, filled_count, seen}
use Rattle.csv_tables.specs.declared.selection.Selection.{Selection}
use Rattle.csv_tables.proofs.CountLemmas.{below_header}
use Rattle.csv_command.specs.Drawn.{AreEnough, HasLimit, IsNotEnough, RendersBeginning, RendersChosen, RendersCounted, layout_with, most_drawn}
use Rattle.csv_command.specs.Errors.{of_columns}
use Rattle.csv_command.specs.LongRecords.{AreLongRecordsOfBeginning, AreLongRecordsOfInput, drawn_records}
use Rattle.csv_records.specs.Longer.{longer_records}
use Rattle.csv_records.specs.declared.longer.LongRecords.{LongRecords}
use Rattle.csv_command.specs.Run.{IsInputRefusal, IsRefusal}
use Rattle.csv_command.specs.declared.error.ColumnsError.{ColumnsError}
use Rattle.csv_command.specs.declared.error.ColumnsError.TheVariants.{OutOfMemory}
use Rattle.csv_command.specs.declared.error.CsvError.TheVariants as err
use Rattle.csv_command.specs.declared.arguments.Options.{Options}
use Rattle.devices.specs.Outcome.{Beginning}

-- ---- rows

twice : {A : Type 0} (n : ℕ) (xs : List A) → take n (take n xs) ≡ take n xs
twice n xs = all_of_few n (take n xs) (omega (arith, length-take n xs))

first_rows : (h : Bool) (limit : ℕ) (all : List (List Text)) → limited (Some limit) (records_below h (take (most_drawn h limit) all)) ≡ limited (Some limit) (records_below h all)
first_rows false limit all = twice limit all
first_rows true limit [] = ap (λ (rs : List (List Text)). take limit (drop 1 rs)) (all_of_few (limit + 1) [] (omega arith))
first_rows true limit (r ∷ all) = let more : limit + 1 ≡ suc limit = omega arith in ap (λ (n : ℕ). take limit (drop 1 (take n (r ∷ all)))) more ∙ twice limit all

first_names : (h : Bool) (limit : ℕ) (all : List (List Text)) → names_of h (take (most_drawn h limit) all) ≡ names_of h all
first_names false limit all = refl
first_names true limit [] = ap (λ (rs : List (List Text)). slice_get rs 0) (all_of_few (limit + 1) [] (omega arith))
first_names true limit (r ∷ all) = let more : limit + 1 ≡ suc limit = omega arith in ap (λ (n : ℕ). slice_get (take n (r ∷ all)) 0) more

-- ---- what is drawn

-- two lists of records have the same names and the same drawn rows
pub record AreDrawnAlike (selection : Selection) (first all : List (List Text)) : Type 0 where
  pub names : names_of selection.has_header first ≡ names_of selection.has_header all
  pub rows : drawn_rows selection first ≡ drawn_rows selection all

module _ (options : Options) (first all : List (List Text)) (alike : AreDrawnAlike options.selection first all) where
  -- words choose the same columns from both
  same_columns : columns_for options first ≡ columns_for options all
  same_columns = ap₂ (λ (n : Option (List Text)) (rs : List (List Text)). columns_by options.columns (unwrap_or n []) (record { all = count_of (unwrap_or n []) rs; filled = filled_count (unwrap_or n []) rs })) alike.names alike.rows

  -- the same is drawn of both
  same_content : (count : Option ℕ) (columns : ColumnsValue) → selected_of count (layout_with options columns) first ≡ selected_of count (layout_with options columns) all
  same_content count columns = ap₂ shown alike.names alike.rows
    where
      shown : Option (List Text) → List (List Text) → SelectedValue
      shown names rows =
          record { names = names; rows = rows; columns = drawn_columns columns (map (seen options.look.has_sequences) rows); count = count; is_numbered = options.selection.is_numbered; noun = options.selection.noun }

  pub same_output : (count : Option ℕ) (output : Text) → RendersChosen count options first output → RendersChosen count options all output
  same_output count output made =
      let own = made.is_output in
      record {
        columns = made.columns;
        are_chosen = sym same_columns ∙ made.are_chosen;
        is_output = record { content = own.content; is_content = sym (same_content count made.columns) ∙ own.is_content; text = own.text; is_text = own.is_text; joined = own.joined };
      }

  -- both are refused for the same reason
  pub same_refusal : (e : ColumnsError) → IsColumnsRefusal e (columns_for options first) → IsColumnsRefusal e (columns_for options all)
  same_refusal e why = subst (λ (columns : Result ColumnsValue ColumnFault). IsColumnsRefusal e columns) same_columns why

-- the first records are drawn like all records, if at least as many are read as are drawn
limited_alike : (selection : Selection) (first all : List (List Text)) (most : ℕ) → option_map (most_drawn selection.has_header) selection.limit ≡ Some most → first ≡ take most all → AreDrawnAlike selection first all
limited_alike selection first all most own is = by_limit selection.limit refl own
  where
    by_limit : (limit : Option ℕ) → selection.limit ≡ limit → option_map (most_drawn selection.has_header) limit ≡ Some most → AreDrawnAlike selection first all
    by_limit None known enough = absurd (cc enough)
    by_limit (Some limit) known enough =
        let own : most_drawn selection.has_header limit ≡ most = cc enough in
        rw (is, ← own) (record { names = first_names selection.has_header limit all; rows = rw known (first_rows selection.has_header limit all) })

-- the same if all records are read
pub drawn_alike : (selection : Selection) (first all : List (List Text)) (most : Option ℕ) → IfSome most (λ (m : ℕ). option_map (most_drawn selection.has_header) selection.limit ≡ Some m)
    → first ≡ take (unwrap_or most (2 ^ 64 - 1)) all → length all < 2 ^ 64 → AreDrawnAlike selection first all
drawn_alike selection first all None own is few = let same : first ≡ all = is ∙ all_of_few (2 ^ 64 - 1) all (omega (arith, few)) in rw same (record { names = refl; rows = refl })
drawn_alike selection first all (Some most) own is few = limited_alike selection first all most own is

-- the first records are the drawn ones
pub first_drawn : (selection : Selection) (first all : List (List Text)) (most : Option ℕ) → IfSome most (λ (m : ℕ). option_map (most_drawn selection.has_header) selection.limit ≡ Some m)
    → IfNone most (IfSome selection.limit (λ limit. 2 ^ 64 ≤ most_drawn selection.has_header limit)) → first ≡ take (unwrap_or most (2 ^ 64 - 1)) all → length all < 2 ^ 64 → first ≡ drawn_records selection all
first_drawn selection first all (Some most) own none is few = is ∙ sym (ap (λ (o : Option ℕ). limited o all) own)
first_drawn selection first all None own none is few = is ∙ all_of_few (2 ^ 64 - 1) all (omega (arith, few)) ∙ by_limit selection.limit none
  where
    by_limit : (limit : Option ℕ) → IfSome limit (λ limit. 2 ^ 64 ≤ most_drawn selection.has_header limit) → all ≡ limited (option_map (most_drawn selection.has_header) limit) all
    by_limit None none = refl
    by_limit (Some limit) none = sym (all_of_few (most_drawn selection.has_header limit) all (omega (arith, few, none)))

-- ---- outputs

module _ (options : Options) where
  -- the output for the first records is the one for all of them
  pub whole_output : (first all : List (List Text)) (count : ℕ) (output : Text) → AreDrawnAlike options.selection first all → (length all ≡ 0 → ⊥) → count ≡ length all - (if options.selection.has_header then 1 else 0)
      → RendersChosen (Some count) options first output → RendersCounted options all output
  whole_output first [] count output alike some counted made = absurd (some refl)
  whole_output first (r ∷ all) count output alike some counted made =
      subst (λ (n : ℕ). RendersChosen (Some n) options (r ∷ all) output) (counted ∙ below_header options.selection (r ∷ all)) (same_output options first (r ∷ all) alike (Some count) output made)

  -- there is a limit if only some records are read
  limit_of : (most : ℕ) → options.counts_all ≡ false → option_map (most_drawn options.selection.has_header) options.selection.limit ≡ Some most → (own : HasLimit options) × (most_drawn options.selection.has_header own.limit ≡ most)
  limit_of most uncounted enough = by_limit options.selection.limit refl enough
    where
      by_limit : (limit : Option ℕ) → options.selection.limit ≡ limit → option_map (most_drawn options.selection.has_header) limit ≡ Some most → (own : HasLimit options) × (most_drawn options.selection.has_header own.limit ≡ most)
      by_limit None known is = absurd (cc is)
      by_limit (Some limit) known is = (record { limit = limit; is = known; uncounted = uncounted }, cc is)

  -- the fact after a lack of memory, if a beginning was read
  pub no_memory : (read : Text) (most : ℕ) → options.counts_all ≡ false → option_map (most_drawn options.selection.has_header) options.selection.limit ≡ Some most → IsRefusal options Beginning read err.OutOfMemory
  no_memory read most uncounted enough = (limit_of most uncounted enough).0

  -- no beginning is enough if there is no limit, or the limit is greater than the lines of any text
  pub unlimited : (read : Text) → length read < 2 ^ 64 → IfSome options.selection.limit (λ limit. 2 ^ 64 ≤ most_drawn options.selection.has_header limit) → IsNotEnough options read
  unlimited read short none records enough =
      let own = enough.has_limit in
      let large : 2 ^ 64 ≤ most_drawn options.selection.has_header own.limit = subst (λ (l : Option ℕ). IfSome l (λ limit. 2 ^ 64 ≤ most_drawn options.selection.has_header limit)) own.is none in
      let few = count_by-le-length is_line_feed (whole_lines read) in
      omega (arith, short, large, few, enough.are.feeds, whole_length read)

  -- no beginning is enough if the reader found none that is
  pub none_found : (read : Text) (most : ℕ) → option_map (most_drawn options.selection.has_header) options.selection.limit ≡ Some most → NoneAreEnough options.input most read → IsNotEnough options read
  none_found read most known none records enough =
      let own = enough.has_limit in
      let some : Some (most_drawn options.selection.has_header own.limit) ≡ Some most = subst (λ (l : Option ℕ). option_map (most_drawn options.selection.has_header) l ≡ Some most) own.is known in
      let same : most_drawn options.selection.has_header own.limit ≡ most = cc some in
      none records (subst (λ (n : ℕ). IsEnough options.input n (whole_lines read) records) same enough.are)

  module _ (read : Text) (most : ℕ) (first : List (List Text)) (uncounted : options.counts_all ≡ false) (enough : option_map (most_drawn options.selection.has_header) options.selection.limit ≡ Some most) (found : AreFirstByBeginning options.input most read first) where
    own_limit : (own : HasLimit options) × (most_drawn options.selection.has_header own.limit ≡ most)
    own_limit = limit_of most uncounted enough

    alike : AreDrawnAlike options.selection first found.records
    alike = limited_alike options.selection first found.records most enough found.are_first

    more : most_drawn options.selection.has_header own_limit.0.limit < length found.records
    more = subst (λ (n : ℕ). n < length found.records) (sym own_limit.1) found.is_enough.more

    abbrev are_enough : AreEnough options (whole_lines read) found.records
    are_enough =
        let enough = found.is_enough in
        record {
          has_limit = own_limit.0;
          are = record { no_utf16 = enough.no_utf16; feeds = subst (λ (n : ℕ). n < count_by is_line_feed (whole_lines read)) (sym own_limit.1) enough.feeds; text = enough.text; is_text = enough.is_text; ends = enough.ends; shows = enough.shows; are_records = enough.are_records; more = more };
        }

    pub beginning_output : (output : Text) → RendersChosen None options first output → RendersBeginning options (whole_lines read) output
    beginning_output output made =
        record {
          records = found.records;
          are_enough = are_enough;
          is_output = same_output options first found.records alike None output made;
        }

    pub beginning_long_records : (longer found_long : Option LongRecords) → longer ≡ longer_records options.input found.is_enough.text first → found_long ≡ (if options.selection.has_header then longer else None) → AreLongRecordsOfBeginning options (whole_lines read) found_long
    beginning_long_records longer found_long are is =
        let drawn : first ≡ drawn_records options.selection found.records = found.are_first ∙ sym (ap (λ (o : Option ℕ). limited o found.records) enough) in
        record { records = found.records; are_enough = are_enough; is = is ∙ ap (λ (l : Option LongRecords). if options.selection.has_header then l else None) (are ∙ ap (longer_records options.input found.is_enough.text) drawn) }

    pub beginning_refused : (e : ColumnsError) → IsColumnsRefusal e (columns_for options first) → IsRefusal options Beginning read (of_columns e)
    beginning_refused OutOfMemory why = own_limit.0
    beginning_refused e why = ((λ is. cc is), found.records, are_enough, same_refusal options first found.records alike e why)

  -- the fact after a lack of memory, if the input has a text
  pub whole_no_memory : (input text : Text) → IsDecodedBy options.input input text → IsInputRefusal options input err.OutOfMemory
  whole_no_memory input text is_text = λ wanted. (subst (λ (encoding : Encoding). IsDecoded encoding options.input.skip input text) wanted is_text.is_decoded).0

  -- the long records among the first ones are those of the input
  pub whole_long_records : (input text : Text) (first all : List (List Text)) (longer found_long : Option LongRecords) → first ≡ drawn_records options.selection all → IsDecodedBy options.input input text → AreRecordsIn options.input text all
      → longer ≡ longer_records options.input text first → found_long ≡ (if options.selection.has_header then longer else None) → AreLongRecordsOfInput options input found_long
  whole_long_records input text first all longer found_long drawn is_text are_records are is =
      record {
        records = all;
        are_records = record { text = text; is_text = is_text; are_records = are_records };
        is = is ∙ ap (λ (l : Option LongRecords). if options.selection.has_header then l else None) (are ∙ ap (longer_records options.input text) drawn);
      }

  -- columns can't be chosen from the records of the input
  pub whole_refused : (input text : Text) (first all : List (List Text)) → AreDrawnAlike options.selection first all → IsDecodedBy options.input input text → AreRecordsIn options.input text all → (length all ≡ 0 → ⊥)
      → (e : ColumnsError) → IsColumnsRefusal e (columns_for options first) → IsInputRefusal options input (of_columns e)
  whole_refused input text first all alike is_text are some e why = by_error e (same_refusal options first all alike e why)
    where
      known : AreRecordsFor options.input input all
      known = record { text = text; is_text = is_text; are_records = are }

      not_none : all ≢ []
      not_none is = some (ap length is)

      by_error : (e : ColumnsError) → IsColumnsRefusal e (columns_for options all) → IsInputRefusal options input (of_columns e)
      by_error OutOfMemory why = whole_no_memory input text is_text
      by_error e why = ((λ is. cc is), all, known, not_none, why)
