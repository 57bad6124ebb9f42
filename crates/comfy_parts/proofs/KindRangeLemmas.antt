-- The kinds of characters by ranges, computed over all of Unicode in one pass.
use Rattle.std.proofs.Common.{◌≡◌, ℕ, Bool, true, false, ◌||◌, refl}
use Rattle.ucd_table.specs.Rows.{in_ranges}
use Rattle.ucd_table.proofs.Facts.{Stepped-everywhere, ends_by}
use Rattle.ucd_table.proofs.Stepped.{Stepped, of_ranges, zip_stepped}
use Rattle.ucd_table.proofs.StepsLemmas.{rises_from}
use Rattle.unicode_width.proofs.Computing.{unicode_width}
use Rattle.unicode_width.proofs.KindLemmas.{kind_stepped}
use Rattle.unicode_width.specs.declared.kind.Kind.{Kind}
use Rattle.unicode_width.specs.declared.kind.Kind.TheVariants as kinds
use Rattle.unicode_width.specs.Kind.{kind}
use Rattle.comfy_parts.specs.Columns.{joining_characters}

-- the kinds of characters that join no other, and emoji
abbrev pub adds_up_kind : Kind → Bool
adds_up_kind kinds.Zero = true
adds_up_kind kinds.Narrow = true
adds_up_kind kinds.Wide = true
adds_up_kind kinds.Ambiguous = true
adds_up_kind kinds.Emoji = true
adds_up_kind _ = false

unfoldable joining_stepped : Stepped (in_ranges joining_characters)
unfolding rises_from
joining_stepped = of_ranges joining_characters refl

-- each character that isn't in the list of joining characters has a kind that adds up
pub others_add_up : (c : ℕ) → (in_ranges joining_characters c || adds_up_kind (kind c)) ≡ true
unfolding unicode_width ends_by joining_stepped rises_from
others_add_up =
    Stepped-everywhere _ (zip_stepped (λ joins k. joins || adds_up_kind k) (in_ranges joining_characters) kind joining_stepped kind_stepped) refl
