-- Equality and hashes of cells. Both read the fields of a cell's value in order. For each field
-- they use the test and the writes of `std`, so they have the laws of `Eq` and `Hash`.
-- Source: the derived PartialEq, Eq and Hash of Cell of comfy-table 8.0.1.
use Rattle.std.specs.Prelude.{◌≡◌, ◌&&◌, ◌++◌, pos, Bool, true, Option, Some, None, nat_eq}
use Rattle.std.specs.Cmp.{IsEquivalence, and_equiv, on_equiv, nat_eq_equiv, unsigned_Decides}
use Rattle.std.specs.Cmp.Lexicographic.{pointwise, pointwise_decides, lists_equiv, options_equiv, nat_list_eq_equiv}
use Rattle.std.specs.Hash as fed
use Rattle.std.specs.Option.{option_eq}
use Rattle.std.proofs.Common.{refl, ap}
use Rattle.comfy_parts.specs.CellValue.{CellValue}
use Rattle.comfy_parts.specs.Comparisons.{alignment_eq, alignment_hash, attribute_eq, attribute_hash, color_eq, color_hash, EqHashesAlike}
use Rattle.comfy_parts.specs.contracts.style.attribute.AttributeEq.TheImpl.Laws as attribute_equiv
use Rattle.comfy_parts.specs.contracts.style.attribute.AttributeHash.TheImpl.Laws as attribute_alike
use Rattle.comfy_parts.specs.contracts.style.cell.CellAlignmentEq.TheImpl.Laws as alignment_equiv
use Rattle.comfy_parts.specs.contracts.style.cell.CellAlignmentHash.TheImpl.Laws as alignment_alike
use Rattle.comfy_parts.specs.contracts.style.color.ColorEq.TheImpl.Laws as color_equiv
use Rattle.comfy_parts.specs.contracts.style.color.ColorHash.TheImpl.Laws as color_alike

-- the result of `==` for two cells
abbrev pub cell_eq : CellValue → CellValue → Bool
cell_eq a b =
    pointwise (pointwise nat_eq) a.text_lines b.text_lines
    && option_eq nat_eq a.delimiter b.delimiter
    && option_eq alignment_eq a.alignment b.alignment
    && option_eq color_eq a.foreground b.foreground
    && option_eq color_eq a.background b.background
    && pointwise attribute_eq a.attributes b.attributes

-- the writes of a cell to a hasher
abbrev pub cell_hash : CellValue → fed.HashWrites
cell_hash c =
    fed.slice fed.str c.text_lines
    ++ fed.option fed.char c.delimiter
    ++ fed.option alignment_hash c.alignment
    ++ fed.option color_hash c.foreground
    ++ fed.option color_hash c.background
    ++ fed.slice attribute_hash c.attributes

-- the law of `Eq`
pub cell_eq_equiv : IsEquivalence cell_eq
cell_eq_equiv =
    let text_lines = on_equiv (λ (c : CellValue). c.text_lines) (lists_equiv nat_list_eq_equiv) in
    let delimiter = on_equiv (λ (c : CellValue). c.delimiter) (options_equiv nat_eq_equiv) in
    let alignment =
    on_equiv (λ (c : CellValue). c.alignment) (options_equiv alignment_equiv.laws-law) in
    let foreground =
    on_equiv (λ (c : CellValue). c.foreground) (options_equiv color_equiv.laws-law) in
    let background =
    on_equiv (λ (c : CellValue). c.background) (options_equiv color_equiv.laws-law) in
    let attributes =
    on_equiv (λ (c : CellValue). c.attributes) (lists_equiv attribute_equiv.laws-law) in
    and_equiv
    (and_equiv (and_equiv (and_equiv (and_equiv text_lines delimiter) alignment) foreground)
    background) attributes

-- if equal values have equal writes, so have equal options of them
options_alike : {K : Type 0} {E : K → K → Bool} {F : K → fed.HashWrites} → EqHashesAlike E F
    → fed.Alike (option_eq E) (fed.option F)
options_alike {K} {E} {F} alike = record { fed = by_case }
  where
    by_case : (x y : Option K) → option_eq E x y ≡ true → fed.option F x ≡ fed.option F y
    by_case None None h = refl
    by_case None (Some y) h = cc
    by_case (Some x) None h = cc
    by_case (Some x) (Some y) h = ap (λ writes. fed.isize (pos 1) ++ writes) (alike x y h)

-- the law of `Hash`
pub cell_hash_respects_eq : EqHashesAlike cell_eq cell_hash
cell_hash_respects_eq =
    let text_lines =
    fed.on_Alike (λ (c : CellValue). c.text_lines)
    (fed.items_Alike (fed.same_Alike fed.str (pointwise_decides unsigned_Decides))) in
    let delimiter =
    fed.on_Alike (λ (c : CellValue). c.delimiter)
    (options_alike (fed.same_Alike fed.char unsigned_Decides).fed) in
    let alignment =
    fed.on_Alike (λ (c : CellValue). c.alignment) (options_alike alignment_alike.respects_eq-law) in
    let foreground =
    fed.on_Alike (λ (c : CellValue). c.foreground) (options_alike color_alike.respects_eq-law) in
    let background =
    fed.on_Alike (λ (c : CellValue). c.background) (options_alike color_alike.respects_eq-law) in
    let attributes =
    fed.on_Alike (λ (c : CellValue). c.attributes)
    (fed.items_Alike (record { fed = attribute_alike.respects_eq-law })) in
    (fed.and-Alike
    (fed.and-Alike (fed.and-Alike (fed.and-Alike (fed.and-Alike text_lines delimiter) alignment)
    foreground) background) attributes).fed
