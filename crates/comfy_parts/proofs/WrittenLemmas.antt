-- The lines that a cursor writes: their positions in a wrapped text, and a proof that they are the texts of the lines
-- of a cell.
use Rattle.std.proofs.Common.{◌≡◌, ◌<◌, ◌≤◌, ℕ, zero, suc, ◌+◌, ◌-◌, Bool, true, false, List, [], ◌∷◌, ◌++◌, length, map, take, drop, zip, replicate, refl, sym, ap, ap₂, ◌∙◌, subst, arith, append_assoc, append-nil, length-append, slice_index_or}
use Rattle.std.specs.Char.{IsScalar}
use Rattle.std.specs.List.{concat, flat_map}
use Rattle.std.specs.Prelude.{if◌then◌else◌, encode_utf8, encode_utf8_all, IsUtf8}
use Rattle.std.proofs.lemmas.Grind.{flat_map-append}
use Rattle.std.proofs.lemmas.List.{drop_all, drop_more, get_or-map, length-map, length-take, map-append, take-append-drop}
use Rattle.std.proofs.lemmas.Str.{IsUtf8-take}
use Rattle.unicode_segmentation.proofs.TextLemmas.{encode_utf8_nonempty}
use Rattle.comfy_parts.specs.Cursor.{CursorValue, IsAfterGap, IsAt, at_byte, open_at_end, visible_ahead}
use Rattle.comfy_parts.specs.Text.{Text, IsOnly, begins_with, measure}
use Rattle.comfy_parts.specs.VisibleLines.{CellLine, line_texts, line_texts_of_text, line_texts_past, starts_of_text, starts_past}
use Rattle.comfy_parts.specs.VisibleText.{active, line_text, open_after, parts, parts_from, parts_up_to, opened, text_between, visible_text}
use Rattle.comfy_parts.specs.Wrapping.{line_end, lines_of_text, lines_past, part_end, wrapped}
use Rattle.comfy_parts.specs.Written.{wrapped_positions, written, written_at, written_of_text}
use Rattle.comfy_parts.proofs.CursorLemmas.{at, at_further}
use Rattle.comfy_parts.proofs.LineTextLemmas.{parts-written}
use Rattle.comfy_parts.proofs.OpenLemmas.{open_after-again, opened-append}
use Rattle.comfy_parts.proofs.StartLemmas.{IsLineCut, line-cut}
use Rattle.comfy_parts.proofs.WrappingLemmas.{whole-past_gap, begins_with-delimiter, lines_past-delimiter, lines_past-gap, lines_past-line}

-- the texts for the lines of text lines, if the sequences ss are open before them
abbrev pub written_past : ℕ → ℕ → List Text → List Text → List Text
written_past w d ss [] = []
written_past w d ss (text ∷ more) =
    written_of_text w d (record { sequences = ss; ahead = parts text }) ++ written_past w d (opened ss (parts text)) more

-- ---- positions of lines

-- a position that is n bytes further on
abbrev pub further : ℕ → ℕ × ℕ → ℕ × ℕ
further n p = (n + p.0, p.1)

further-none : (positions : List (ℕ × ℕ)) → map (further 0) positions ≡ positions
further-none [] = refl
further-none (p ∷ ps) = grind (arith, further-none ps)

further-twice : (n k : ℕ) (positions : List (ℕ × ℕ)) → map (further n) (map (further k) positions) ≡ map (further (n + k)) positions
further-twice n k [] = refl
further-twice n k (p ∷ ps) = grind (arith, further-twice n k ps)

-- lines that begin n bytes further on
zip-further : (n : ℕ) (starts lens : List ℕ) → zip (map (λ s. n + s) starts) lens ≡ map (further n) (zip starts lens)
zip-further n [] lens = refl
zip-further n (s ∷ ss) [] = refl
zip-further n (s ∷ ss) (l ∷ ls) = ap (λ (ps : List (ℕ × ℕ)). (n + s, l) ∷ ps) (zip-further n ss ls)

-- without lines there are no positions
pub zip-none : (starts : List ℕ) → zip starts (map (λ (line : Text). length line) []) ≡ []
zip-none [] = refl
zip-none (s ∷ ss) = refl

module _ (w d : ℕ) where
  starts-further : (n place skip : ℕ) (text : Text) → starts_past w d (n + place) skip text ≡ map (λ s. n + s) (starts_past w d place skip text)
  starts-further n place zero [] = refl
  starts-further n place (suc skip) [] = refl
  starts-further n place (suc skip) (b ∷ rest) = grind (arith, starts-further n (place + 1) skip rest)
  starts-further n place zero (b ∷ rest) =
      let sum : n + place + 1 ≡ n + (place + 1) = omega arith in
      let skip = part_end w d (b ∷ rest) - 1 in
      let same = ap (λ m. starts_past w d m skip rest) sum ∙ starts-further n (place + 1) skip rest in
      elim (begins_with d (b ∷ rest)) as (λ t. (if t then [] else (n + place) ∷ []) ++ starts_past w d (n + place + 1) skip rest ≡ map (λ s. n + s) ((if t then [] else place ∷ []) ++ starts_past w d (place + 1) skip rest))
      [ true ↦ same | false ↦ ap (λ (xs : List ℕ). (n + place) ∷ xs) same ]

  -- skipped bytes begin no line
  starts-skip : (place : ℕ) (xs ys : Text) → starts_past w d place (length xs) (xs ++ ys) ≡ starts_past w d (length xs + place) 0 ys
  starts-skip place [] ys = grind arith
  starts-skip place (x ∷ xs) ys = grind (arith, starts-skip (place + 1) xs ys)

  -- a part at the front is passed as a whole
  starts-part : (part rest : Text) (t : Bool) → 0 < length part → part_end w d (part ++ rest) ≡ length part → begins_with d (part ++ rest) ≡ t
      → starts_past w d 0 0 (part ++ rest) ≡ (if t then [] else 0 ∷ []) ++ map (λ s. length part + s) (starts_past w d 0 0 rest)
  starts-part [] rest t some ends begins = absurd (omega (arith, some))
  starts-part (b ∷ bs) rest t some ends begins =
      let back : part_end w d (b ∷ (bs ++ rest)) - 1 ≡ length bs = omega (arith, ends) in
      let sum : length bs + (0 + 1) ≡ suc (length bs) + 0 = omega arith in
      ap₂ (λ t n. (if t then [] else 0 ∷ []) ++ starts_past w d (0 + 1) n (bs ++ rest)) begins back
      ∙ ap (λ xs. (if t then [] else 0 ∷ []) ++ xs) (starts-skip (0 + 1) bs rest ∙ ap (λ m. starts_past w d m 0 rest) sum ∙ starts-further (suc (length bs)) 0 0 rest)

  -- after a delimiter, the lines begin further on
  positions-delimiter : (rest : Text) → IsScalar d → wrapped_positions w d (encode_utf8 d ++ rest) ≡ map (further (length (encode_utf8 d))) (wrapped_positions w d rest)
  positions-delimiter rest scalar =
      let some = encode_utf8_nonempty d in
      let begins = begins_with-delimiter d rest scalar in
      let ends : part_end w d (encode_utf8 d ++ rest) ≡ length (encode_utf8 d) = ap (λ t. if t then length (encode_utf8 d) else line_end w d (encode_utf8 d ++ rest)) begins in
      ap₂ (λ starts (lines : List Text). zip starts (map length lines)) (starts-part (encode_utf8 d) rest true some ends begins) (lines_past-delimiter w d rest some begins)
      ∙ zip-further (length (encode_utf8 d)) (starts_past w d 0 0 rest) (map length (wrapped w d rest))

  -- after a gap, the lines begin further on
  positions-gap : (gap rest : Text) → IsScalar d → IsOnly d gap → wrapped_positions w d (gap ++ rest) ≡ map (further (length gap)) (wrapped_positions w d rest)
  positions-gap gap rest scalar (n, only) = subst (λ g. wrapped_positions w d (g ++ rest) ≡ map (further (length g)) (wrapped_positions w d rest)) (sym only) (delimiters n)
    where
      delimiters : (n : ℕ) → wrapped_positions w d (encode_utf8_all (replicate n d) ++ rest) ≡ map (further (length (encode_utf8_all (replicate n d)))) (wrapped_positions w d rest)
      delimiters zero = sym (further-none (wrapped_positions w d rest))
      delimiters (suc n) =
          let more = encode_utf8_all (replicate n d) in
          ap (wrapped_positions w d) (append_assoc (encode_utf8 d) more rest)
          ∙ positions-delimiter (more ++ rest) scalar
          ∙ ap (map (further (length (encode_utf8 d)))) (delimiters n)
          ∙ further-twice (length (encode_utf8 d)) (length more) (wrapped_positions w d rest)
          ∙ ap (λ m. map (further m) (wrapped_positions w d rest)) (sym (length-append (encode_utf8 d) more))

  -- a line at the front begins at 0
  positions-line : (line tail : Text) → 0 < length line → begins_with d (line ++ tail) ≡ false → length line ≡ line_end w d (line ++ tail)
      → wrapped_positions w d (line ++ tail) ≡ (0, length line) ∷ map (further (length line)) (wrapped_positions w d tail)
  positions-line line tail some begins ends =
      let part : part_end w d (line ++ tail) ≡ length line = ap (λ t. if t then length (encode_utf8 d) else line_end w d (line ++ tail)) begins ∙ sym ends in
      ap₂ (λ starts (lines : List Text). zip starts (map length lines)) (starts-part line tail false some part begins) (lines_past-line w d line tail some begins ends)
      ∙ ap (λ (ps : List (ℕ × ℕ)). (0, length line) ∷ ps) (zip-further (length line) (starts_past w d 0 0 tail) (map length (wrapped w d tail)))

-- ---- the texts that are written at these positions

-- a cursor further on writes the same texts at the nearer positions
written-further : (n : ℕ) (old new : CursorValue) (positions : List (ℕ × ℕ)) → IsAt new n old → written_at old (map (further n) positions) ≡ written_at new positions
written-further n old new [] is_at = refl
written-further n old new (p ∷ ps) is_at =
    let plain : 0 + p.0 ≡ p.0 = omega arith in
    let same : at_byte (n + p.0) old ≡ at_byte p.0 new = sym (at_further n p.0 old) ∙ ap (at_byte p.0) (sym is_at) ∙ at_further 0 p.0 new ∙ ap (λ k. at_byte k new) plain in
    ap₂ (λ c (ts : List Text). written p.1 c ∷ ts) same (written-further n old new ps is_at)

-- a text that has a line isn't empty
some_bytes : (w d : ℕ) (line : Text) (after : List Text) (text : Text) → line ∷ after ≡ wrapped w d text → 0 < length text
unfolding lines_past
some_bytes w d line after [] is = absurd (let len = ap length is in omega (arith, len))
some_bytes w d line after (b ∷ bs) is = omega arith

-- the first line of a wrapped text and the lines after it, for a cursor before the gap of this line, and one after the
-- gap
pub record IsNextLine (w d : ℕ) (old mid : CursorValue) (line : Text) (after : List Text) : Type 0 where
  pub whole : IsUtf8 (take (length line) (visible_ahead mid))
  pub rest_whole : IsUtf8 (drop (length line) (visible_ahead mid))
  pub lines : after ≡ wrapped w d (drop (length line) (visible_ahead mid))
  pub written_is : (new : CursorValue) → IsAt new (length line) mid → visible_ahead new ≡ drop (length line) (visible_ahead mid)
      → written_at old (wrapped_positions w d (visible_ahead old)) ≡ written (length line) (at_byte 0 mid) ∷ written_at new (wrapped_positions w d (visible_ahead new))

pub next_line : (w d : ℕ) (old mid : CursorValue) (line : Text) (after : List Text) → IsScalar d → IsUtf8 (visible_ahead old) → IsAfterGap d old mid → line ∷ after ≡ wrapped w d (visible_ahead old)
    → IsNextLine w d old mid line after
next_line w d old mid line after scalar utf8 gap lines =
    record {
      whole = subst (λ n. IsUtf8 (take n visible)) (sym long) (IsUtf8-take visible end whole cut.place);
      rest_whole = subst (λ n. IsUtf8 (drop n visible)) (sym long) cut.whole_rest;
      lines = second ∙ ap (λ n. wrapped w d (drop n visible)) (sym long);
      written_is = λ new is_at left.
          ap (λ t. written_at old (wrapped_positions w d t)) gap.visible
          ∙ ap (written_at old) (positions-gap w d gap.gap visible scalar gap.only)
          ∙ written-further (length gap.gap) old mid (wrapped_positions w d visible) gap.is_at
          ∙ ap (λ t. written_at mid (wrapped_positions w d t)) (sym halves)
          ∙ ap (written_at mid) (positions-line w d line (drop end visible) (omega (arith, long, cut.some)) (ap (begins_with d) halves ∙ gap.begins_otherwise) (long ∙ ap (line_end w d) (sym halves)))
          ∙ ap (λ (ts : List Text). written (length line) (at_byte 0 mid) ∷ ts)
          (written-further (length line) mid new (wrapped_positions w d (drop end visible)) is_at ∙ ap (λ t. written_at new (wrapped_positions w d t)) (ap (λ n. drop n visible) (sym long) ∙ sym left));
    }
  where
    visible : Text
    visible = visible_ahead mid

    whole : IsUtf8 visible
    whole = whole-past_gap d gap.only.0 visible (subst IsUtf8 (gap.visible ∙ ap (λ g. g ++ visible) gap.only.1) utf8)

    same : line ∷ after ≡ wrapped w d visible
    same =
        lines ∙ ap (wrapped w d) (gap.visible ∙ ap (λ g. g ++ visible) gap.only.1) ∙ lines_past-gap w d gap.only.0 visible scalar

    cut : IsLineCut w d visible
    cut = line-cut w d visible whole (some_bytes w d line after visible same) gap.begins_otherwise

    end : ℕ
    end = line_end w d visible

    both : line ∷ after ≡ take end visible ∷ wrapped w d (drop end visible)
    both = same ∙ cut.lines

    first : line ≡ take end visible
    first = cc both

    second : after ≡ wrapped w d (drop end visible)
    second = cc both

    long : length line ≡ end
    long =
        let taken = ap length first ∙ length-take end visible in
        let within : end ≤ length visible = cut.place.0 in
        omega (arith, taken, within)

    halves : line ++ drop end visible ≡ visible
    halves = ap (λ t. t ++ drop end visible) first ∙ take-append-drop end visible

-- after the last line, nothing is written
pub written-none : (w d : ℕ) (c : CursorValue) (text : Text) → [] ≡ wrapped w d text → written_at c (wrapped_positions w d text) ≡ []
written-none w d c text none =
    ap (λ (lines : List Text). written_at c (zip (starts_past w d 0 0 text) (map length lines))) (sym none) ∙ ap (written_at c) (zip-none (starts_past w d 0 0 text))

-- ---- the texts of the lines of a cell

-- the sequences that are open after the line's part of the text
open-taken : (earlier : List Text) (text : Text) (start len : ℕ)
    → open_after (parts (concat (active earlier text start) ++ text_between text start len)) ≡ opened (active earlier text start) (parts_up_to len (parts_from start (parts text)))
open-taken earlier text start len = grind (arith, parts-written, open_after-again, opened-append)

-- the text of a line is the text that a cursor from the front of its text line writes
pub line_text-written : (earlier : List Text) (text : Text) (start len : ℕ) → written len (at_byte start (at (open_after (flat_map parts earlier)) (parts text))) ≡ line_text earlier text start len
line_text-written earlier text start len = grind (arith, append_assoc, open-taken, opened-append)

-- this is so for all lines of a text line
text_lines-written : (w d : ℕ) (earlier : List Text) (text : Text)
    → written_of_text w d (at (open_after (flat_map parts earlier)) (parts text)) ≡ map (λ (line : CellLine). line.written) (line_texts_of_text w d earlier text)
text_lines-written w d earlier text = each (starts_of_text w d (visible_text text)) (lines_of_text w d (visible_text text))
  where
    each : (starts : List ℕ) (lines : List Text) → written_at (at (open_after (flat_map parts earlier)) (parts text)) (zip starts (map length lines))
        ≡ map (λ (line : CellLine). line.written) (map (λ (p : ℕ × Text). record { measured = p.1; written = line_text earlier text p.0 (length p.1) }) (zip starts lines))
    each [] lines = refl
    each (s ∷ ss) [] = refl
    each (s ∷ ss) (line ∷ lines) = ap₂ (λ (t : Text) ts. t ∷ ts) (line_text-written earlier text s (length line)) (each ss lines)

past-written : (w d : ℕ) (earlier texts : List Text) → written_past w d (open_after (flat_map parts earlier)) texts ≡ map (λ (line : CellLine). line.written) (line_texts_past w d earlier texts)
past-written w d earlier [] = refl
past-written w d earlier (text ∷ more) = grind (arith, text_lines-written, map-append, opened-append, append-nil, flat_map-append, past-written w d (earlier ++ text ∷ []) more)

-- the texts that are written for the text lines of a cell are the texts of its lines
pub cell-written : (w d : ℕ) (texts : List Text) → written_past w d [] texts ≡ map (λ (line : CellLine). line.written) (line_texts w d texts)
cell-written w d texts = past-written w d [] texts

-- ---- text line by text line

-- the text at a position of a list
pub text_at : {X : Type 0} (f : X → Text) (xs : List X) (place : ℕ) (x : X) → place < length xs → x ≡ slice_index_or xs place x → slice_index_or (map f xs) place [] ≡ f x
text_at f xs place x below is = get_or-map f xs place x [] below ∙ ap f (sym is)

as_many : {X : Type 0} (f : X → Text) (texts visibles : List X) → map f visibles ≡ map visible_text (map f texts) → length visibles ≡ length texts
as_many f texts visibles same = grind (arith, length-map)

-- the visible text of a text line is the text at the same position of the list of visible texts
pub visible_at : {X : Type 0} (f : X → Text) (texts visibles : List X) (place : ℕ) (text visible : X) → map f visibles ≡ map visible_text (map f texts) → place < length texts
    → text ≡ slice_index_or texts place text → visible ≡ slice_index_or visibles place visible → f visible ≡ visible_text (f text)
visible_at f texts visibles place text visible same below is is' =
    sym (text_at f visibles place visible (omega (arith, as_many f texts visibles same, below)) is')
    ∙ ap (λ (ts : List Text). slice_index_or ts place []) same
    ∙ get_or-map visible_text (map f texts) place [] [] (omega (arith, length-map texts f, below))
    ∙ ap visible_text (text_at f texts place text below is)

-- its measure is at the same position of the list of widths
pub width_at : {X : Type 0} (f : X → Text) (texts visibles : List X) (widths : List ℕ) (place : ℕ) (visible : X) → map f visibles ≡ map visible_text (map f texts) → widths ≡ map measure (map f visibles)
    → place < length texts → visible ≡ slice_index_or visibles place visible → slice_index_or widths place 0 ≡ measure (f visible)
width_at f texts visibles widths place visible same measured below is =
    ap (λ ws. slice_index_or ws place 0) measured
    ∙ get_or-map measure (map f visibles) place [] 0 (omega (arith, length-map visibles f, as_many f texts visibles same, below))
    ∙ ap measure (text_at f visibles place visible (omega (arith, as_many f texts visibles same, below)) is)

-- one more text line is written
pub next_text : (w d : ℕ) (texts done more : List Text) (place : ℕ) (text : Text) (old mid new : CursorValue) → place < length texts → slice_index_or texts place [] ≡ text
    → mid ≡ at (open_at_end old) (parts text) → more ≡ done ++ written_of_text w d mid → open_at_end new ≡ open_at_end mid
    → more ++ written_past w d (open_at_end new) (drop (place + 1) texts) ≡ done ++ written_past w d (open_at_end old) (drop place texts)
next_text w d texts done more place text old mid new below is begins writes stays = grind (arith, append_assoc, drop_more)

-- after the last text line, nothing is written
pub texts_written : (w d : ℕ) (texts done : List Text) (place : ℕ) (ss : List Text) → length texts ≤ place → done ++ written_past w d ss (drop place texts) ≡ done
texts_written w d texts done place ss past = grind (arith, drop_all, append-nil)
