-- The cells of a line, and the rows of an input, as the loops collect them.
use Rattle.std.proofs.Common.{◌≡◌, ◌==◌, ◌<◌, ◌≤◌, ◌+◌, ◌||◌, ℕ, zero, suc, Bool, true, false, List, [], ◌∷◌, ◌++◌, map, length, get_or, take, drop, refl, ap, ap₂, subst, sym, ◌∙◌, append_assoc, arith, rules, cond, length-append, length-drop, drop-cons}
use borrow.Author.Tests.{tests}
use Rattle.std.proofs.lemmas.Bool.Decides.{nat_tests}
use Rattle.std.proofs.lemmas.List.{length-map, length-take-le, map-append, nil_from_length, take-append-drop, take_all}
use Rattle.std.proofs.Math.Seq.{take-append-add}
use Rattle.std.proofs.lemmas.List.Folds.{list_any-append}
use Rattle.std.proofs.lemmas.Bool.{or_parts}
use Rattle.std.specs.List.{join_with_byte, list_any, slice_index, slice_split, onto_first}
use Rattle.std.proofs.lemmas.List.Splits.{length-slice_split, slice_split-cons_no, slice_split-cons_yes}
use Rattle.std.specs.Prelude.{if◌then◌else◌}
use Rattle.std.specs.Str.{IsCharBoundary, IsUtf8}
use Rattle.std.proofs.lemmas.Str.{IsCharBoundary-after_ascii, IsCharBoundary-before_ascii, IsUtf8-drop}
use Rattle.comfy_parts.specs.CellValue.{CellValue, RowValue, plain_cell, with_cell}
use Rattle.comfy_run.specs.Rows.{break_of, cells_of_line, row_of_line}
use Rattle.comfy_run.specs.Parts.{IsFirstPart}

-- a join of pieces with one more piece at the end
pub join-push : (pieces : List (List ℕ)) (piece : List ℕ) → 0 < length pieces → join_with_byte 0x0A (pieces ++ piece ∷ []) ≡ join_with_byte 0x0A pieces ++ 0x0A ∷ piece
join-push [] piece some = absurd (omega arith)
join-push (x ∷ []) piece some = refl
join-push (x ∷ y ∷ more) piece some =
    ap (λ t. x ++ 0x0A ∷ t) (join-push (y ∷ more) piece (omega arith)) ∙ sym (append_assoc x (0x0A ∷ join_with_byte 0x0A (y ∷ more)) (0x0A ∷ piece))

join-onto : (b : ℕ) (pieces : List (List ℕ)) → join_with_byte 0x0A (onto_first b pieces) ≡ b ∷ join_with_byte 0x0A pieces
join-onto b [] = refl
join-onto b (x ∷ []) = refl
join-onto b (x ∷ y ∷ more) = refl

join-start : (pieces : List (List ℕ)) → 0 < length pieces → join_with_byte 0x0A ([] ∷ pieces) ≡ 0x0A ∷ join_with_byte 0x0A pieces
join-start [] some = absurd (omega arith)
join-start (x ∷ more) some = refl

slice_split-some : (text : List ℕ) → 0 < length (slice_split (λ b. b == 0x0B) text)
slice_split-some text = omega (arith, length-slice_split (λ b. b == 0x0B) text)

-- a text that is split at its breaks and joined by line feeds has a line feed for each break
pub joined-breaks : (text : List ℕ) → join_with_byte 0x0A (slice_split (λ b. b == 0x0B) text) ≡ map break_of text
joined-breaks [] = refl
joined-breaks (b ∷ text) =
    let more = joined-breaks text in
    let some = slice_split-some text in
    elim (b == 0x0B) as (λ (v : Bool). join_with_byte 0x0A (cond v ([] ∷ slice_split (λ b. b == 0x0B) text) (onto_first b (slice_split (λ b. b == 0x0B) text))) ≡ cond v 0x0A b ∷ map break_of text) [
      | true ↦ join-start _ some ∙ ap (λ t. 0x0A ∷ t) more
      | false ↦ join-onto b _ ∙ ap (λ t. b ∷ t) more
    ]

module _ {P : Type 0} (now : P → List ℕ) (pieces : List P) (piece : P) (text : List ℕ) where
  -- the first piece
  pub joined-first : (length pieces == 0) ≡ true → text ≡ join_with_byte 0x0A (map now pieces) → text ++ now piece ≡ join_with_byte 0x0A (map now (pieces ++ piece ∷ []))
  joined-first none is =
      let bare : pieces ≡ [] = nil_from_length pieces (search (rules, tests)) in
      rw (is, bare) refl

  -- a piece after others
  pub joined-more : (length pieces == 0) ≡ false → text ≡ join_with_byte 0x0A (map now pieces) → (text ++ 0x0A ∷ []) ++ now piece ≡ join_with_byte 0x0A (map now (pieces ++ piece ∷ []))
  joined-more some is =
      let are : 0 < length (map now pieces) = rw length-map (search (rules, tests)) in
      append_assoc text (0x0A ∷ []) (now piece) ∙ ap (λ t. t ++ 0x0A ∷ now piece) is ∙ sym (join-push (map now pieces) (now piece) are) ∙ ap (join_with_byte 0x0A) (sym (map-append now pieces (piece ∷ [])))

-- a text without breaks is unchanged
pub kept_breaks : (text : List ℕ) → list_any (λ b. b == 0x0B) text ≡ false → map break_of text ≡ text
kept_breaks [] none = refl
kept_breaks (b ∷ text) none =
    let both = or_parts (b == 0x0B) (list_any (λ x. x == 0x0B) text) none in
    ap₂ (λ (x : ℕ) (xs : List ℕ). x ∷ xs) (ap (λ (v : Bool). cond v 0x0A b) both.0) (kept_breaks text both.1)

-- if no byte of two neighbouring parts passes a test, none of both together does
pub none_more : (p : ℕ → Bool) (n m : ℕ) (bytes : List ℕ) → n ≤ length bytes → list_any p (take n bytes) ≡ false → list_any p (take m (drop n bytes)) ≡ false → list_any p (take (n + m) bytes) ≡ false
none_more p n m bytes within front back =
    let whole : take (n + m) bytes ≡ take n bytes ++ take m (drop n bytes) =
    ap₂ take (let len : n + m ≡ length (take n bytes) + m = omega (arith, length-take-le n bytes within) in len) (sym (take-append-drop n bytes))
    ∙ take-append-add (take n bytes) (drop n bytes) m in
    ap (list_any p) whole ∙ list_any-append p (take n bytes) (take m (drop n bytes)) ∙ ap₂ (λ (x y : Bool). x || y) front back

-- a text without a TAB is its only part
pub one_part : (bytes : List ℕ) → list_any (λ b. b == 0x09) bytes ≡ false → slice_split (λ b. b == 0x09) bytes ≡ bytes ∷ []
one_part [] none = refl
one_part (b ∷ bytes) none =
    let both = or_parts (b == 0x09) (list_any (λ x. x == 0x09) bytes) none in
    slice_split-cons_no (λ x. x == 0x09) b bytes both.0 ∙ ap (onto_first b) (one_part bytes both.1)

-- the text before the first TAB is the first part, and the others are the parts of the text after it
pub parts_around : (n : ℕ) (bytes : List ℕ) → list_any (λ b. b == 0x09) (take n bytes) ≡ false → n < length bytes → slice_index bytes n ≡ 0x09
    → slice_split (λ b. b == 0x09) bytes ≡ take n bytes ∷ slice_split (λ b. b == 0x09) (drop 1 (drop n bytes))
parts_around n [] none within tab = absurd (omega (arith, within))
parts_around zero (b ∷ bytes) none within tab = slice_split-cons_yes (λ x. x == 0x09) b bytes (ap (λ x. x == 0x09) tab)
parts_around (suc n) (b ∷ bytes) none within tab =
    let both = or_parts (b == 0x09) (list_any (λ x. x == 0x09) (take n bytes)) none in
    slice_split-cons_no (λ x. x == 0x09) b bytes both.0 ∙ ap (onto_first b) (parts_around n bytes both.1 (omega (arith, within)) tab)

-- the text of a cell, if breaks are replaced only if there may be any
left_whole : (breaks : Bool) (part : List ℕ) → (breaks ≡ false → map break_of part ≡ part) → (if breaks then map break_of part else part) ≡ map break_of part
left_whole true part kept = refl
left_whole false part kept = sym (kept refl)

-- the first part of a text, the text after it, and the cell of the part
module _ (rest bytes part others : List ℕ) (n : ℕ) (breaks : Bool) (cell : CellValue) (same : bytes ≡ rest) (first : IsFirstPart bytes n) (kept : breaks ≡ false → map break_of (take n bytes) ≡ take n bytes)
    (front : part ≡ take n rest) (back : others ≡ drop n rest) (made : cell ≡ plain_cell (if breaks then map break_of part else part)) where
  cell_is : cell ≡ plain_cell (map break_of (take n rest))
  cell_is =
      let looked_at : take n bytes ≡ part = ap (take n) same ∙ sym front in
      made ∙ ap plain_cell (left_whole breaks part (λ none. subst (λ t. map break_of t ≡ t) looked_at (kept none))) ∙ ap (λ t. plain_cell (map break_of t)) front

  unbroken : list_any (λ b. b == 0x09) (take n rest) ≡ false
  unbroken = ap (λ bs. list_any (λ b. b == 0x09) (take n bs)) (sym same) ∙ first.unbroken

  within : 0 < length others → n < length rest
  within some = omega (arith, ap length back, length-drop n rest, some)

  tab : 0 < length others → slice_index rest n ≡ 0x09
  tab some = subst (λ (bs : List ℕ). n < length bs → slice_index bs n ≡ 0x09) same first.ends (within some)

  -- the last part
  pub last_cell : length others ≡ 0 → cells_of_line rest ≡ cell ∷ []
  last_cell none =
      let whole : take n rest ≡ rest = take_all n rest (omega (arith, ap length back, length-drop n rest, none)) in
      ap (map (λ (t : List ℕ). plain_cell (map break_of t))) (one_part rest (ap (list_any (λ b. b == 0x09)) (sym whole) ∙ unbroken))
      ∙ ap (λ (c : CellValue). c ∷ []) (sym (cell_is ∙ ap (λ t. plain_cell (map break_of t)) whole))

  -- a part before others
  pub more_cells : (next : List ℕ) → 0 < length others → next ≡ drop 1 others → cells_of_line rest ≡ cell ∷ cells_of_line next
  more_cells next some follows =
      ap (map (λ (t : List ℕ). plain_cell (map break_of t))) (parts_around n rest unbroken (within some) (tab some))
      ∙ ap₂ (λ (c : CellValue) (cs : List CellValue). c ∷ cs) (sym cell_is) (ap cells_of_line (sym (follows ∙ ap (drop 1) back)))

  -- the text after the part is whole characters, and begins with a TAB
  pub after_part : IsUtf8 rest → 0 < length others → IsUtf8 others × IsCharBoundary others 1
  after_part utf8 some =
      let low : get_or rest n 0 < 128 = omega (arith, tab some) in
      let whole = subst IsUtf8 (sym back) (IsUtf8-drop rest n utf8 (IsCharBoundary-before_ascii rest n (within some) low)) in
      let starts : get_or others 0 0 ≡ get_or rest n 0 = ap (λ bs. get_or bs 0 0) (back ∙ drop-cons rest n 0 (within some)) in
      (whole, IsCharBoundary-after_ascii others 0 whole some (omega (arith, starts, low)))

module _ (row new : RowValue) (cell : CellValue) (line rest : List ℕ) (all : record row { cells = row.cells ++ cells_of_line rest } ≡ row_of_line line) (is : new ≡ with_cell cell row) where
  -- the row with its last cell
  pub row_whole : cells_of_line rest ≡ cell ∷ [] → new ≡ row_of_line line
  row_whole last = is ∙ ap (λ (cs : List CellValue). record row { cells = row.cells ++ cs }) (sym last) ∙ all

  -- the row with a cell before others
  pub row_more : (next : List ℕ) → cells_of_line rest ≡ cell ∷ cells_of_line next → record new { cells = new.cells ++ cells_of_line next } ≡ row_of_line line
  row_more next first =
      ap (λ (r : RowValue). record r { cells = r.cells ++ cells_of_line next }) is
      ∙ ap (λ (cs : List CellValue). record row { cells = cs }) (append_assoc row.cells (cell ∷ []) (cells_of_line next) ∙ ap (λ (cs : List CellValue). row.cells ++ cs) (sym first)) ∙ all

-- a list with an item at its end isn't empty
pub pushed-some : {P : Type 0} (pieces : List P) (piece : P) → false ≡ (length (pieces ++ piece ∷ []) == 0)
pushed-some pieces piece = grind (arith, nat_tests, length-append)
