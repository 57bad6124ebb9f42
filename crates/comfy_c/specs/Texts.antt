-- Texts as one block of bytes, and the errors for them.
-- Source: this library's own.
use Rattle.std.specs.Prelude.{◌≡◌, ℕ, List, All, IsUtf8, length}
use Rattle.comfy_parts.specs.Text.{Text}
use Rattle.comfy_c.specs.declared.refusal.DrawRefusal.{DrawRefusal}
use Rattle.comfy_c.specs.declared.refusal.DrawRefusal.TheVariants.{Lengths, NotUtf8, OutOfMemory, Settings}
use Rattle.csv_records.specs.CutLists.{cut_by, total}

-- the rows of texts with these lengths, and these numbers of texts in each row
abbrev pub rows_of : Text → List ℕ → List ℕ → List (List Text)
rows_of texts lengths counts = cut_by counts (cut_by lengths texts)

-- the lengths add up to the length of all texts, and the counts to the number of lengths
abbrev pub AddUp : Text → List ℕ → List ℕ → Type 0
AddUp texts lengths counts = (total lengths ≡ length texts) × (total counts ≡ length lengths)

-- lengths and counts add up, but a text isn't UTF-8
abbrev pub IsNoText : Text → List ℕ → List ℕ → Type 0
IsNoText texts lengths counts =
    AddUp texts lengths counts × ¬ (All IsUtf8 (cut_by lengths texts))

-- the error for texts: lengths or counts don't add up, or they do and a text isn't UTF-8
abbrev pub IsTextsRefusal : Text → List ℕ → List ℕ → DrawRefusal → Type 0
IsTextsRefusal texts lengths counts Lengths = ¬ (AddUp texts lengths counts)
IsTextsRefusal texts lengths counts NotUtf8 = IsNoText texts lengths counts
IsTextsRefusal texts lengths counts Settings = ⊥
IsTextsRefusal texts lengths counts OutOfMemory = Unit {0}
