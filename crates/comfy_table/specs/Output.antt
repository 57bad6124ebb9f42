-- Private: outputs of drawn lines, as lists of elements: texts, or the bytes of one text.
-- Source: this library's own.
use Rattle.std.specs.Prelude.{◌≡◌, List, ◌++◌, flat_map, length, take}
use Rattle.comfy_parts.specs.Text.{Text}

-- the elements of an output, followed by those that these lines add
abbrev pub with_lines : {A : Type 0} → (Text → List A) → List Text → List A → List A
with_lines kept_of lines kept = kept ++ flat_map kept_of lines

-- the list begins with `front`
abbrev pub BeginsWith : {A : Type 0} → List A → List A → Type 0
BeginsWith list front = take (length front) list ≡ front
