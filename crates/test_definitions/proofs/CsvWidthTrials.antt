-- Lines that break the promise about a width, lines that keep it, and the columns of frames.
use Rattle.std.proofs.Common.{◌≡◌, inl, ◌+◌, ℕ, Bool, true, false, List, [], ◌∷◌, None, Some, arith, codes, length, refl, sym, ap, ◌∙◌, subst}
use Rattle.std.specs.List.{All, slice_split}
use Rattle.std.specs.Prelude.{◌==◌, String, string_bytes}
use Rattle.std.proofs.lemmas.List.Elements.{All-from_recursion, All-head}
use Rattle.comfy_parts.specs.Text.{Text, measure}
use Rattle.csv_tables.specs.declared.options.Expansion.{Expansion}
use Rattle.csv_tables.specs.declared.options.Expansion.TheVariants.{Always, Auto, Never}
use Rattle.csv_command.specs.declared.arguments.Options.{Options}
use Rattle.csv_tables.specs.Columns.{filled_count}
use Rattle.promises.specs.Shown.Shows.{byte, nothing}
use Rattle.promises.specs.Tables.{HasCharactersWithin}
use Rattle.csv_promises.specs.Fields.{positions_by, positions_in}
use Rattle.csv_promises.specs.Counted.{EachDrawnLine, HasEachLine}
use Rattle.csv_promises.specs.Width.{KeepsItsWidth, KeepsTo, frame_room, framed_columns}
use Rattle.test_definitions.proofs.CsvPromiseTrials.{bold, drawn_lines, two_columns}
use Rattle.comfy_parts.proofs.Computing.{wrapping}
use lib.Utf8.{encode}
use Rattle.test_definitions.proofs.OutputLineTrials.{found, one_line, unended}
use Rattle.test_definitions.proofs.PromiseTrials.{shows_itself, ten}

-- ---- lines

-- no word chooses or drops a column
abbrev IsAll : Options → Type 0
IsAll options = (options.columns.chosen.items ≡ []) × (options.columns.dropped.items ≡ [])

-- the only line of rows keeps to the width
kept : (P : Text → Type 0) (options : Options) → options.look.expansion ≡ Never → options.selection.limit ≡ None → (records : List (List Text)) (text line : Text) → slice_split (λ b. b == 0x0A) text ≡ line ∷ [] ∷ [] → EachDrawnLine P options records text → P line
kept P options never unlimited records text line cut is =
    let own = drawn_lines P options never unlimited records text is in
    All-head P line [] (subst (All P) (one_line line own.lines (sym cut ∙ found text own.lines own.are)) own.each)

-- under a width of eight, a table of one column takes five terminal columns
abbrev in_eight : Options → Bool → Options
in_eight options is_filled = record options { selection = record options.selection { has_header = false; limit = None; is_numbered = false }; look = record bold { expansion = Never; width = Some 8; fills_width = is_filled } }

abbrev one_field : List (List Text)
one_field = (codes "a" ∷ []) ∷ []

one_column_room : (options : Options) (is_filled : Bool) → IsAll options → frame_room (framed_columns (in_eight options is_filled) one_field) ≡ 5
one_column_room options is_filled (chosen, dropped) = rw chosen (rw dropped refl)

a_is_narrow : All (All (HasCharactersWithin 1)) one_field
unfolding wrapping encode
a_is_narrow = All-from_recursion (All (HasCharactersWithin 1)) one_field (All-from_recursion (HasCharactersWithin 1) (codes "a" ∷ []) (refl, tt), tt)

-- ten terminal columns are more than a width of eight, and more than the frame takes
-- false: csv_promises::output_within
wide_line : (options : Options) → IsAll options → ¬ (KeepsItsWidth (in_eight options false) one_field (codes "0123456789\n"))
wide_line options all is =
    let own = kept (KeepsTo 8 (frame_room (framed_columns (in_eight options false) one_field)) false) (in_eight options false) refl refl one_field (codes "0123456789\n") (codes "0123456789") refl (is 8 refl (inl a_is_narrow)) in
    let wide : own.columns ≡ 10 = sym own.shows.2 ∙ ap measure (shows_itself own.shows.1 refl) ∙ ten in
    absurd (omega (arith, own.within, wide, one_column_room options false all))

-- if the width is filled, two terminal columns are less than eight
narrow_line : (options : Options) → IsAll options → ¬ (KeepsItsWidth (in_eight options true) one_field (codes "ba\n"))
narrow_line options all is =
    let own = kept (KeepsTo 8 (frame_room (framed_columns (in_eight options true) one_field)) true) (in_eight options true) refl refl one_field (codes "ba\n") (codes "ba") refl (is 8 refl (inl a_is_narrow)) in
    let two : own.columns ≡ 2 = sym own.shows.2 ∙ ap measure (shows_itself own.shows.1 refl) ∙ two_columns in
    let eight = own.exact refl (omega (arith, one_column_room options true all)) in
    absurd (omega (arith, eight, two))

-- a frame without room in the width is wider than the width
frame_line : KeepsTo 1 2 true (codes "ba")
frame_line = record { columns = 2; shows = (codes "ba", byte 0x62 (codes "a") (codes "a") refl (byte 0x61 [] [] refl nothing), two_columns); within = omega arith; exact = λ filled room. absurd (omega (arith, room)) }

-- a text without a line feed at its end has no lines
open_line : (P : Text → Type 0) → ¬ (HasEachLine P (codes "a"))
open_line P is = unended is.lines is.are

-- ---- frames

abbrev three_names : List (List Text)
three_names = (codes "a" ∷ codes "b" ∷ codes "c" ∷ []) ∷ []

-- two fields below three names
abbrev three_columns : List (List Text)
three_columns = (codes "a" ∷ codes "b" ∷ codes "c" ∷ []) ∷ (codes "d" ∷ codes "e" ∷ []) ∷ []

-- a name chooses one of three columns, and an open range the columns from one on
one_name : {A : Type 0} (word : String A) → string_bytes word ≡ codes "b" → positions_by (codes "a" ∷ codes "b" ∷ codes "c" ∷ []) 3 (word ∷ []) ≡ 1 ∷ []
one_name word is = rw is refl

range : {A : Type 0} (word : String A) → string_bytes word ≡ codes "b-" → positions_by (codes "a" ∷ codes "b" ∷ codes "c" ∷ []) 3 (word ∷ []) ≡ 1 ∷ 2 ∷ []
range word is = rw is refl

-- the width of a frame below a header
abbrev room_by : Options → Expansion → Bool → List (List Text) → ℕ
room_by options expansion is_numbered records =
    frame_room (framed_columns (record options { selection = record options.selection { has_header = true; limit = None; is_numbered = is_numbered }; look = record bold { expansion = expansion } }) records)

-- all three are drawn
all_are_drawn : (options : Options) → IsAll options → (rows : List (List Text)) → filled_count (codes "a" ∷ codes "b" ∷ codes "c" ∷ []) rows ≡ 3 → (more : ℕ) → frame_room (length (positions_in options (codes "a" ∷ codes "b" ∷ codes "c" ∷ []) rows) + more) ≡ frame_room (3 + more)
all_are_drawn options (chosen, dropped) rows three more = rw chosen (rw dropped (rw three refl))

-- a last column without a name is drawn only if one of its fields isn't empty
blank_last : (options : Options) → IsAll options → positions_in options (codes "a" ∷ codes "b" ∷ [] ∷ []) ((codes "d" ∷ [] ∷ [] ∷ []) ∷ []) ≡ 0 ∷ 1 ∷ []
blank_last options (chosen, dropped) = rw chosen (rw dropped refl)

filled_last : (options : Options) → IsAll options → positions_in options (codes "a" ∷ codes "b" ∷ [] ∷ []) ((codes "d" ∷ [] ∷ [] ∷ []) ∷ (codes "e" ∷ [] ∷ codes "f" ∷ []) ∷ []) ≡ 0 ∷ 1 ∷ 2 ∷ []
filled_last options (chosen, dropped) = rw chosen (rw dropped refl)

-- `|_a_|_b_|_c_|` takes thirteen terminal columns, and the numbers take four more
unfolded : (options : Options) → IsAll options → room_by options Never false three_columns ≡ 13
unfolded options all = all_are_drawn options all ((codes "d" ∷ codes "e" ∷ []) ∷ []) refl 0

with_numbers : (options : Options) → IsAll options → room_by options Never true three_columns ≡ 17
with_numbers options all = all_are_drawn options all ((codes "d" ∷ codes "e" ∷ []) ∷ []) refl 1

-- a name and a field take nine, and are drawn if there is no room, except for a header alone
expanded : (options : Options) → room_by options Always true three_columns ≡ 9
expanded options = refl

expanded_at_need : (options : Options) → room_by options Auto true three_columns ≡ 9
expanded_at_need options = refl

only_names : (options : Options) → IsAll options → room_by options Auto false three_names ≡ 13
only_names options all = all_are_drawn options all [] refl 0
