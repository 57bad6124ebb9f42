-- Equality, order and hashes of attributes, alignments and colours, and the laws of comparisons.
-- Source: the derived traits of Attribute, Color and CellAlignment of comfy-table 8.0.1.
use Rattle.std.specs.Prelude.{◌≡◌, ◌↔◌, ◌&&◌, ℕ, Bool, true, List, [], ◌∷◌}
use Rattle.std.specs.Hash.{HashWrites}
use Rattle.std.specs.Ordering.{is_lt}
use Rattle.std.specs.declared.cmp.Ordering.{Ordering}
use Rattle.std.specs.declared.cmp.Ordering.TheVariants.{Equal}
use Rattle.comfy_parts.specs.declared.style.attribute.Attribute.{Attribute}
use Rattle.comfy_parts.specs.declared.style.attribute.Attribute.TheVariants as attribute
use Rattle.comfy_parts.specs.declared.style.cell.CellAlignment.{CellAlignment}
use Rattle.comfy_parts.specs.declared.style.color.Color.{Color}
use Rattle.comfy_parts.specs.declared.style.color.Color.TheVariants as color
use Rattle.comfy_parts.specs.contracts.style.attribute.AttributePartialEq.TheImpl as of_attribute_eq
use Rattle.comfy_parts.specs.contracts.style.attribute.AttributeOrd.TheImpl as of_attribute_ord
use Rattle.comfy_parts.specs.contracts.style.attribute.AttributeHash.TheImpl as of_attribute_hash
use Rattle.comfy_parts.specs.contracts.style.cell.CellAlignmentPartialEq.TheImpl as of_alignment_eq
use Rattle.comfy_parts.specs.contracts.style.cell.CellAlignmentHash.TheImpl as of_alignment_hash
use Rattle.comfy_parts.specs.contracts.style.color.ColorPartialEq.TheImpl as of_color_eq
use Rattle.comfy_parts.specs.contracts.style.color.ColorOrd.TheImpl as of_color_ord
use Rattle.comfy_parts.specs.contracts.style.color.ColorHash.TheImpl as of_color_hash

-- `==` on attributes
abbrev pub attribute_eq : Attribute → Attribute → Bool
attribute_eq = (of_attribute_eq.ghosts).eq

-- the order of attributes
abbrev pub attribute_cmp : Attribute → Attribute → Ordering
attribute_cmp = (of_attribute_ord.ghosts).cmp

-- the writes of an attribute to a hasher
abbrev pub attribute_hash : Attribute → HashWrites
attribute_hash = (of_attribute_hash.ghosts).hash_input

-- `==` on alignments
abbrev pub alignment_eq : CellAlignment → CellAlignment → Bool
alignment_eq = (of_alignment_eq.ghosts).eq

-- the writes of an alignment to a hasher
abbrev pub alignment_hash : CellAlignment → HashWrites
alignment_hash = (of_alignment_hash.ghosts).hash_input

-- `==` on colours
abbrev pub color_eq : Color → Color → Bool
color_eq = (of_color_eq.ghosts).eq

-- the order of colours
abbrev pub color_cmp : Color → Color → Ordering
color_cmp = (of_color_ord.ghosts).cmp

-- the writes of a colour to a hasher
abbrev pub color_hash : Color → HashWrites
color_hash = (of_color_hash.ghosts).hash_input

-- `==` returns true exactly for values that are the same
abbrev pub EqIsSame : {K : Type 0} → (K → K → Bool) → Type 0
EqIsSame {K} eq = (a b : K) → (eq a b ≡ true) ↔ (a ≡ b)

-- the order returns `Equal` exactly for values that are the same
abbrev pub EqualIsSame : {K : Type 0} → (K → K → Ordering) → Type 0
EqualIsSame {K} cmp = (a b : K) → (cmp a b ≡ Equal) ↔ (a ≡ b)

-- equal values have equal writes to a hasher
abbrev pub EqHashesAlike : {K : Type 0} → (K → K → Bool) → (K → HashWrites) → Type 0
EqHashesAlike {K} eq hash_input = (a b : K) → eq a b ≡ true → hash_input a ≡ hash_input b

-- each value of the list is less than the next one
abbrev pub ascends : {K : Type 0} → (K → K → Ordering) → List K → Bool
ascends cmp (x ∷ y ∷ more) = is_lt (cmp x y) && ascends cmp (y ∷ more)
ascends cmp _ = true

-- the attributes, from the least to the greatest
abbrev pub attributes_in_order : List Attribute
attributes_in_order =
    attribute.Reset ∷ attribute.Bold ∷ attribute.Dim ∷ attribute.Italic ∷ attribute.Underlined
    ∷ attribute.DoubleUnderlined ∷ attribute.Undercurled ∷ attribute.Underdotted
    ∷ attribute.Underdashed
    ∷ attribute.SlowBlink ∷ attribute.RapidBlink ∷ attribute.Reverse ∷ attribute.Hidden
    ∷ attribute.CrossedOut
    ∷ attribute.Fraktur ∷ attribute.NoBold ∷ attribute.NormalIntensity ∷ attribute.NoItalic
    ∷ attribute.NoUnderline
    ∷ attribute.NoBlink ∷ attribute.NoReverse ∷ attribute.NoHidden ∷ attribute.NotCrossedOut
    ∷ attribute.Framed
    ∷ attribute.Encircled ∷ attribute.OverLined ∷ attribute.NotFramedOrEncircled
    ∷ attribute.NotOverLined ∷ []

-- the colours, from the least to the greatest: the named ones, one given by its parts, and one by
-- its number
abbrev pub colors_in_order : ℕ → ℕ → ℕ → ℕ → List Color
colors_in_order r g b v =
    color.Reset ∷ color.Black ∷ color.DarkGrey ∷ color.Red ∷ color.DarkRed ∷ color.Green
    ∷ color.DarkGreen
    ∷ color.Yellow ∷ color.DarkYellow ∷ color.Blue ∷ color.DarkBlue ∷ color.Magenta
    ∷ color.DarkMagenta ∷ color.Cyan
    ∷ color.DarkCyan ∷ color.White ∷ color.Grey ∷ color.Rgb r g b ∷ color.AnsiValue v ∷ []
