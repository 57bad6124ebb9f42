-- Control characters in texts and tables, computed.
use Rattle.std.proofs.Common.{ℕ, List, [], ◌∷◌, refl, subst}
use Rattle.std.specs.Char.{is_control}
use Rattle.std.specs.List.{All}
use Rattle.std.specs.Prelude.{Some, codes, encode_utf8_all}
use Rattle.std.specs.Str.{NonePass}
use Rattle.std.proofs.lemmas.Bool.{true≢false}
use Rattle.std.proofs.lemmas.List.Elements.{All-from_recursion}
use Rattle.std.proofs.lemmas.Str.{encodes_same}
use Rattle.comfy_parts.proofs.Computing.{wrapping}
use Rattle.comfy_parts.specs.CellValue.{CellValue, ColumnValue}
use Rattle.comfy_parts.specs.Presets.{ascii_full}
use Rattle.comfy_parts.specs.VisibleText.{visible_text}
use Rattle.comfy_table.specs.Laws.{HasNoControl, IsFreeOfControls}
use Rattle.comfy_parts.specs.declared.style.column.ColumnConstraint.TheVariants.{Hidden}
use Rattle.comfy_table.specs.TableValue.{TableValue, column_cells, constrained, shown_columns}
use Rattle.test_definitions.proofs.TrialTables.{rows_of, utf8}

-- if some of these characters are control characters, their text has one
holds_one : (cs : List ℕ) → (NonePass is_control cs → ⊥) → ¬ (HasNoControl (encode_utf8_all cs))
holds_one cs found none = found (subst (NonePass is_control) (encodes_same none.0 cs none.1) none.2)

tab_is_one : ¬ (HasNoControl (utf8 "a\t"))
tab_is_one = holds_one (codes "a\t") (λ none. true≢false none.1.0)

delete_is_one : ¬ (HasNoControl (utf8 "\u{7f}"))
delete_is_one = holds_one (codes "\u{7f}") (λ none. true≢false none.0)

-- U+009B, which some terminals read as ESC and `[`, is a control character too, though it has two bytes
c1_is_one : ¬ (HasNoControl (utf8 "\u{9b}1m"))
c1_is_one = holds_one (codes "\u{9b}1m") (λ none. true≢false none.0)

-- U+00A0 follows the last control character
no_break_space_is_none : HasNoControl (utf8 "~\u{a0}…")
no_break_space_is_none = (codes "~\u{a0}…", refl, (refl, (refl, (refl, tt))))

-- ---- sequences

colours_are_taken_out : HasNoControl (visible_text (codes "\u{1b}[1ma\u{1b}[0m"))
unfolding wrapping
colours_are_taken_out = (codes "a", refl, (refl, tt))

-- other sequences aren't taken out
clearing_stays : ¬ (HasNoControl (visible_text (codes "\u{1b}[2J")))
unfolding wrapping
clearing_stays = holds_one (codes "\u{1b}[2J") (λ none. true≢false none.0)

-- ---- tables

abbrev plain : TableValue
plain = rows_of ascii_full (("a" ∷ []) ∷ [])

abbrev HasNone : CellValue → Type 0
HasNone cell = All HasNoControl cell.text_lines

plain_is_free : IsFreeOfControls plain
unfolding wrapping
plain_is_free =
    record {
      text_lines =
          All-from_recursion (λ (p : ℕ × ColumnValue). All HasNone (column_cells plain p.0)) (shown_columns plain)
          (All-from_recursion HasNone (column_cells plain 0) (All-from_recursion HasNoControl (codes "a" ∷ []) ((codes "a", refl, (refl, tt)), tt), tt), tt);
      indicator = (0x2026 ∷ [], refl, (refl, tt));
      characters = refl;
    }

-- a hidden column with any cells
abbrev hiding : TableValue
hiding = let table : TableValue = rows_of ascii_full (("\u{1b}[2J" ∷ []) ∷ []) in record table { columns = constrained (Hidden ∷ []) table.columns }

hidden_is_free : IsFreeOfControls hiding
unfolding wrapping
hidden_is_free =
    record {
      text_lines = All-from_recursion (λ (p : ℕ × ColumnValue). All HasNone (column_cells hiding p.0)) (shown_columns hiding) tt;
      indicator = (0x2026 ∷ [], refl, (refl, tt));
      characters = refl;
    }

-- a style with TABs has control characters
abbrev with_tabs : TableValue
with_tabs = record plain { style = record ascii_full { top_border = record ascii_full.top_border { fill = Some 0x09 } } }

tabs_are_not : ¬ (IsFreeOfControls with_tabs)
unfolding wrapping
tabs_are_not free = true≢false free.characters
