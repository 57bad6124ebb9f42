-- Private: the text lines of a cell, as its code stores them.
-- Source: this library's own.
use Rattle.std.specs.Prelude.{◌≡◌, ◌==◌, ℕ, true, false, List, [], ◌∷◌, Option, Some, None, map, string_bytes}
use Rattle.std.specs.List.{list_any}
use Rattle.comfy_parts.specs.Text.{Text, measure}
use Rattle.comfy_parts.specs.VisibleText.{has_escape, visible_text}
use Rattle.comfy_parts.specs.declared.cell.text_lines.Storage.{Storage}
use Rattle.comfy_parts.specs.declared.cell.text_lines.Storage.TheVariants as kept
use Rattle.comfy_parts.specs.declared.cell.text_lines.Texts.{Texts}
use Rattle.comfy_parts.specs.declared.cell.text_lines.Texts.TheVariants.{Multiple, Single}

-- the stored texts
abbrev pub texts_of : Texts → List Text
texts_of (Single text width) = string_bytes text ∷ []
texts_of (Multiple texts widths) = map string_bytes texts.items

-- the stored widths of the texts, in terminal columns
abbrev pub widths_of : Texts → List ℕ
widths_of (Single text width) = width ∷ []
widths_of (Multiple texts widths) = widths.items

-- `visible` has the visible texts of `raw` and their widths, and `raw` contains ESC
pub record AreVisible (raw visible : Texts) : Type 0 where
  pub escaped : list_any has_escape (texts_of raw) ≡ true
  pub texts : texts_of visible ≡ map visible_text (texts_of raw)
  pub widths : widths_of visible ≡ map measure (texts_of visible)

-- visible texts are stored exactly if a text contains ESC
abbrev pub IsVisible : Texts → Option Texts → Type 0
IsVisible raw None = list_any has_escape (texts_of raw) ≡ false
IsVisible raw (Some visible) = AreVisible raw visible

-- the stored widths are the measures of the texts, and their visible texts are stored if needed
pub record AreMeasured (raw : Texts) (visible : Option Texts) : Type 0 where
  pub widths : widths_of raw ≡ map measure (texts_of raw)
  pub are_visible : IsVisible raw visible

-- a text that is one text line without ESC, and its width in terminal columns
pub record IsClearLine (text : Text) (columns : ℕ) : Type 0 where
  pub unbroken : list_any (λ b. b == 0x0A) text ≡ false
  pub clear : has_escape text ≡ false
  pub width : columns ≡ measure text

-- the stored text lines
abbrev pub kept_texts : Storage → List Text
kept_texts (kept.Plain text width) = string_bytes text ∷ []
kept_texts (kept.Boxed several) = texts_of several.value.raw

-- `Plain` is one text line without ESC, and other text lines are stored with their widths and, if
-- needed, their visible texts
abbrev pub KeepsMeasured : Storage → Type 0
KeepsMeasured (kept.Plain text width) = IsClearLine (string_bytes text) width
KeepsMeasured (kept.Boxed several) = AreMeasured several.value.raw several.value.visible
