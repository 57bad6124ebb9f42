-- Private: the known facts about a text at the start of a line.
-- Source: this library's own.
use Rattle.std.specs.Prelude.{◌≡◌, ℕ, false}
use Rattle.comfy_parts.specs.Following.{IsAtLine}
use Rattle.comfy_parts.specs.Laws.{IsPrintable}
use Rattle.comfy_parts.specs.Text.{Text, begins_with}
use Rattle.comfy_parts.specs.declared.content_split.lines.Next.{Next}
use Rattle.comfy_parts.specs.declared.content_split.lines.Next.TheVariants.{Printable, Element}

-- the text is printable ASCII, or its first element is known
abbrev pub IsAtNext : Next → ℕ → ℕ → Text → Type 0
IsAtNext Printable w d text = IsPrintable w d text × (begins_with d text ≡ false)
IsAtNext (Element e) w d text = IsAtLine w d text e.len e.columns e.wide
