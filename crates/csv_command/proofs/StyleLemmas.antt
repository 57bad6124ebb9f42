-- Each style that arguments can name has characters of one terminal column, and none that is replaced in fields.
use Rattle.std.proofs.Common.{◌≡◌, ℕ, Bool, not, true, List, [], ◌∷◌, Option, Some, None, codes, option_map, unwrap_or, refl, subst, sym}
use Rattle.std.proofs.lemmas.Bool.{and_parts, cond_both, not-true}
use Rattle.std.specs.List.{find, list_all, list_any}
use Rattle.std.specs.Option.{option_or}
use Rattle.clap.specs.Words.{first_value}
use Rattle.comfy_parts.proofs.CallerLemmas.{one_column_characters}
use Rattle.comfy_parts.specs.Columns.{IsOneColumnStyle, has_frame_characters, style_characters}
use Rattle.comfy_parts.specs.Presets.{named_presets, utf8_full}
use Rattle.comfy_parts.specs.Text.{Text}
use Rattle.comfy_parts.specs.declared.style.table_style.TableStyle.{TableStyle}
use Rattle.csv_command.specs.Arguments.{IsParsed}
use Rattle.csv_command.specs.Styles.{is_named, named_style, own_styles, style_for, style_within}
use Rattle.csv_command.specs.declared.arguments.Invocation.{Invocation}
use Rattle.csv_command.specs.declared.arguments.OutputContext.{OutputContext}
use Rattle.csv_records.specs.Cleaning.{is_replaced}
use Rattle.csv_tables.specs.Controls.{IsHarmlessStyle}

module _ (p : TableStyle → Bool) where
  -- a style passes, or `UTF8_FULL` if there is none
  abbrev Passes : Option TableStyle → Type 0
  Passes style = p (unwrap_or style utf8_full) ≡ true

  -- the style that is found passes if each style of the table does
  found_passes : Passes None → (table : List (Text × TableStyle)) (word : Text) → list_all (λ (entry : Text × TableStyle). p entry.1) table ≡ true → Passes (style_within table word)
  found_passes none [] word all = none
  found_passes none (entry ∷ entries) word all =
      let each = and_parts (p entry.1) (list_all (λ (e : Text × TableStyle). p e.1) entries) all in
      cond_both (is_named entry.0 word) (Some entry) (find (λ (e : Text × TableStyle). is_named e.0 word) entries) (λ (found : Option (Text × TableStyle)). Passes (option_map (λ (e : Text × TableStyle). e.1) found)) (λ _. each.0) (λ _. found_passes none entries word each.1)

  first_passes : (first second : Option TableStyle) → Passes first → Passes second → Passes (option_or first second)
  first_passes (Some style) second one other = one
  first_passes None second one other = other

  -- the style of any name passes
  named_passes : Passes None → list_all (λ (entry : Text × TableStyle). p entry.1) own_styles ≡ true → list_all (λ (entry : Text × TableStyle). p entry.1) named_presets ≡ true → (word : Text) → p (named_style word) ≡ true
  named_passes none own presets word = first_passes (style_within own_styles word) (style_within named_presets word) (found_passes none own_styles word own) (found_passes none named_presets word presets)

pub styles_are_one_column : (name : Option Text) → IsOneColumnStyle (style_for name)
styles_are_one_column None = one_column_characters (style_for None) refl
styles_are_one_column (Some word) = one_column_characters (named_style word) (named_passes has_frame_characters refl refl refl word)

pub styles_without_controls : (name : Option Text) → IsHarmlessStyle (style_for name)
styles_without_controls None = refl
styles_without_controls (Some word) = not-true _ (named_passes (λ style. not (list_any (λ (c : Option ℕ). is_replaced (unwrap_or c 0x20)) (style_characters style))) refl refl refl word)

-- ---- styles of arguments

module _ (arguments : List Text) (context : OutputContext) (invocation : Invocation) (is : IsParsed arguments context invocation) where
  pub parsed_style_is_one_column : IsOneColumnStyle invocation.options.look.style
  parsed_style_is_one_column = subst IsOneColumnStyle (sym is.options.look.style) (styles_are_one_column (first_value is.found (codes "style")))

  pub parsed_style_without_controls : IsHarmlessStyle invocation.options.look.style
  parsed_style_without_controls = subst IsHarmlessStyle (sym is.options.look.style) (styles_without_controls (first_value is.found (codes "style")))
