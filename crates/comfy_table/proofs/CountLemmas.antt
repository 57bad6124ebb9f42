-- The number of characters that a text adds before any other text, and so the number of characters of a framed line.
use Rattle.std.proofs.Common.{◌≡◌, ◌<◌, ℕ, zero, suc, ◌+◌, ◌-◌, ◌/◌, ◌%◌, Bool, true, false, cond, List, [], ◌∷◌, ◌++◌, Option, length, map, sum, refl, sym, ap, ◌∙◌, subst, arith, append_assoc, append-nil}
use Rattle.std.specs.Int.{is_in_range}
use Rattle.std.specs.List.{repeat, join_by, flat_map, AllZip}
use Rattle.std.specs.Prelude.{if◌then◌else◌, encode_utf8}
use Rattle.std.specs.Str.{chars, chars_after, continuation_len, lead_bits, IsUtf8}
use Rattle.std.proofs.lemmas.Bool.{and_parts}
use Rattle.std.proofs.lemmas.Bool.Decides.{nat_tests}
use Rattle.std.proofs.lemmas.List.{length-append, length-map}
use Rattle.std.proofs.lemmas.List.Sums.{sum_by-cons}
use Rattle.std.proofs.lemmas.Str.{chars-nil, chars-append}
use lib.Dec.{ltb}
use lib.Utf8.{encode}
use Rattle.comfy_parts.proofs.CallerLemmas.{below_seven_bits}
use Rattle.comfy_parts.specs.CellValue.{ColumnInfo}
use Rattle.comfy_parts.specs.Text.{Text, spaces, is_printable_ascii}
use Rattle.comfy_parts.specs.declared.style.table_style.LineStyle.{LineStyle}
use Rattle.comfy_parts.specs.declared.style.table_style.TableStyle.{TableStyle}
use Rattle.comfy_table.specs.Drawing.{outer_widths}
use Rattle.comfy_table.specs.Frame.{border_count, character, between_borders, frame_line, draws_left_border, draws_right_border, draws_vertical_lines}
use Rattle.comfy_table.specs.Laws.{count}
use Rattle.comfy_table.specs.Pieces.{shown_infos}

-- the text adds n characters before any rest
pub record HasCount (n : ℕ) (text : Text) : Type 0 where
  pub counts : (rest : Text) → length (chars (text ++ rest)) ≡ n + length (chars rest)

-- so the text has n characters
pub count-is : (n : ℕ) (text : Text) → HasCount n text → count text ≡ n
count-is n text has = grind (arith, chars-nil, append-nil)

-- a number that equals n may take the place of n
pub HasCount-same : (m n : ℕ) (text : Text) → m ≡ n → HasCount m text → HasCount n text
HasCount-same m n text same has = subst (λ k. HasCount k text) same has

-- ---- characters

-- the number of bytes that follow the first byte of a character depends on this byte alone
led : (a n : ℕ) (bs : Text) → n ≡ continuation_len a → chars (a ∷ bs) ≡ chars_after n (lead_bits a) bs
unfolding chars
led a n bs says = ap (λ m. chars_after m (lead_bits a) bs) (sym says)

-- a character whose bytes have all been read
whole : (c : ℕ) (rest : Text) → length (chars_after 0 c rest) ≡ 1 + length (chars rest)
unfolding chars
whole c [] = refl
whole c (b ∷ bs) = omega arith

-- a byte of ASCII is one character
pub HasCount-byte : (b : ℕ) → b < 128 → HasCount 1 (b ∷ [])
HasCount-byte b low =
    record { counts = λ rest. ap length (led b 0 rest (grind (arith, nat_tests))) ∙ whole (lead_bits b) rest }

-- the bytes of a number's encoding are one character
pub HasCount-encode : (c : ℕ) → HasCount 1 (encode_utf8 c)
unfolding encode
HasCount-encode c = record { counts = λ rest. by_size (ltb c 128) (ltb c 2048) (ltb c 65536) refl refl refl rest }
  where
    by_size : (one two three : Bool) → ltb c 128 ≡ one → ltb c 2048 ≡ two → ltb c 65536 ≡ three → (rest : Text)
        → length (chars (cond one (c ∷ []) (cond two ((192 + c / 64) ∷ (128 + c % 64) ∷ []) (cond three ((224 + c / 4096) ∷ (128 + (c / 64) % 64) ∷ (128 + c % 64) ∷ []) ((240 + c / 262144) ∷ (128 + (c / 4096) % 64) ∷ (128 + (c / 64) % 64) ∷ (128 + c % 64) ∷ []))) ++ rest)) ≡ 1 + length (chars rest)
    by_size true two three p q r rest =
        ap length (led c 0 rest (grind (arith, nat_tests))) ∙ whole (lead_bits c) rest
    by_size false true three p q r rest =
        ap length (led (192 + c / 64) 1 ((128 + c % 64) ∷ rest) (grind (arith, nat_tests))) ∙ whole _ rest
    by_size false false true p q r rest =
        ap length (led (224 + c / 4096) 2 ((128 + (c / 64) % 64) ∷ (128 + c % 64) ∷ rest) (grind (arith, nat_tests))) ∙ whole _ rest
    by_size false false false p q r rest =
        ap length (led (240 + c / 262144) 3 ((128 + (c / 4096) % 64) ∷ (128 + (c / 64) % 64) ∷ (128 + c % 64) ∷ rest) (grind (arith, nat_tests))) ∙ whole _ rest

-- ---- texts

-- an empty text adds no characters
pub HasCount-nil : HasCount 0 []
HasCount-nil = record { counts = λ rest. omega arith }

-- two texts add the sum of their characters
pub HasCount-append : (m n : ℕ) (xs ys : Text) → HasCount m xs → HasCount n ys → HasCount (m + n) (xs ++ ys)
HasCount-append m n xs ys front back = grind (arith, append_assoc)

-- a text of UTF-8 adds its own characters
pub HasCount-utf8 : (text : Text) → IsUtf8 text → HasCount (count text) text
HasCount-utf8 text utf8 =
    record { counts = λ rest. ap length (chars-append text rest utf8) ∙ length-append (chars text) (chars rest) }

-- printable ASCII has as many characters as bytes
pub HasCount-printable : (text : Text) → is_printable_ascii text ≡ true → HasCount (length text) text
HasCount-printable [] printable = HasCount-nil
HasCount-printable (c ∷ cs) printable =
    let parts = and_parts (is_in_range 0x20 0x7E c) (is_printable_ascii cs) printable in
    let low = below_seven_bits c parts.0 in
    HasCount-same (1 + length cs) (length (c ∷ cs)) (c ∷ cs) (omega arith)
    (HasCount-append 1 (length cs) (c ∷ []) cs (HasCount-byte c (omega arith)) (HasCount-printable cs parts.1))

-- n spaces add n characters
pub HasCount-spaces : (n : ℕ) → HasCount n (spaces n)
HasCount-spaces zero = HasCount-nil
HasCount-spaces (suc n) =
    HasCount-same (1 + n) (suc n) (spaces (suc n)) (omega arith) (HasCount-append 1 n (0x20 ∷ []) (spaces n) (HasCount-byte 0x20 (omega arith)) (HasCount-spaces n))

-- a text of one character, repeated n times, adds n characters
pub HasCount-repeat : (n : ℕ) (text : Text) → HasCount 1 text → HasCount n (repeat n text)
HasCount-repeat zero text one = HasCount-nil
HasCount-repeat (suc n) text one =
    HasCount-same (1 + n) (suc n) (repeat (suc n) text) (omega arith) (HasCount-append 1 n text (repeat n text) one (HasCount-repeat n text one))

-- ---- framed lines

-- a character that is written only if `b` is true
HasCount-when : (b : Bool) (text : Text) → HasCount 1 text → HasCount (if b then 1 else 0) (if b then text else [])
HasCount-when true text one = one
HasCount-when false text one = HasCount-nil

-- the sum of widths with a separator before each, for one width more
pub sum-separated : (w : ℕ) (widths : List ℕ) (b : Bool) → ((if b then 1 else 0) + w) + ((if b then length widths else 0) + sum widths) ≡ (if b then suc (length widths) else 0) + sum (w ∷ widths)
sum-separated w widths true = let all = sum_by-cons (λ (x : ℕ). x) w widths in omega (arith, all)
sum-separated w widths false = let all = sum_by-cons (λ (x : ℕ). x) w widths in omega (arith, all)

-- the sum of widths with a separator between each two
pub sum-between : (w : ℕ) (widths : List ℕ) (b : Bool) → w + ((if b then length widths else 0) + sum widths) ≡ (if b then suc (length widths) - 1 else 0) + sum (w ∷ widths)
sum-between w widths true = let all = sum_by-cons (λ (x : ℕ). x) w widths in omega (arith, all)
sum-between w widths false = let all = sum_by-cons (λ (x : ℕ). x) w widths in omega (arith, all)

-- pieces with a separator before each
HasCount-separated : (b : Bool) (separator : Text) (widths : List ℕ) (pieces : List Text) → HasCount 1 separator → AllZip HasCount widths pieces
    → HasCount ((if b then length widths else 0) + sum widths) (flat_map (λ (piece : Text). (if b then separator else []) ++ piece) pieces)
HasCount-separated true separator [] [] one each = HasCount-nil
HasCount-separated false separator [] [] one each = HasCount-nil
HasCount-separated b separator [] (piece ∷ pieces) one each = absurd each
HasCount-separated b separator (w ∷ widths) [] one each = absurd each
HasCount-separated b separator (w ∷ widths) (piece ∷ pieces) one (first, more) =
    HasCount-same (((if b then 1 else 0) + w) + ((if b then length widths else 0) + sum widths)) ((if b then suc (length widths) else 0) + sum (w ∷ widths)) _ (sum-separated w widths b)
    (HasCount-append _ _ ((if b then separator else []) ++ piece) (flat_map (λ (piece : Text). (if b then separator else []) ++ piece) pieces)
    (HasCount-append _ w (if b then separator else []) piece (HasCount-when b separator one) first) (HasCount-separated b separator widths pieces one more))

-- pieces with a separator between each two
HasCount-between : (b : Bool) (separator : Text) (widths : List ℕ) (pieces : List Text) → HasCount 1 separator → AllZip HasCount widths pieces
    → HasCount ((if b then length widths - 1 else 0) + sum widths) (join_by (λ (piece : Text). piece) (if b then separator else []) pieces)
HasCount-between true separator [] [] one each = HasCount-nil
HasCount-between false separator [] [] one each = HasCount-nil
HasCount-between b separator [] (piece ∷ pieces) one each = absurd each
HasCount-between b separator (w ∷ widths) [] one each = absurd each
HasCount-between b separator (w ∷ widths) (piece ∷ pieces) one (first, more) =
    HasCount-same (w + ((if b then length widths else 0) + sum widths)) ((if b then suc (length widths) - 1 else 0) + sum (w ∷ widths)) _ (sum-between w widths b)
    (HasCount-append w _ piece (flat_map (λ (piece : Text). (if b then separator else []) ++ piece) pieces) first (HasCount-separated b separator widths pieces one more))

-- pieces of these widths between borders have the border characters and the sum of the widths
pub HasCount-joined : (style : TableStyle) (left junction right : Option ℕ) (widths : List ℕ) (pieces : List Text) → AllZip HasCount widths pieces
    → HasCount (border_count style (length widths) + sum widths) (between_borders style left junction right pieces)
HasCount-joined style left junction right widths pieces each =
    let order : (l r j s : ℕ) → l + ((j + s) + r) ≡ ((l + r) + j) + s = λ l r j s. omega arith in
    HasCount-same _ _ _ (order (if draws_left_border style then 1 else 0) (if draws_right_border style then 1 else 0) (if draws_vertical_lines style then length widths - 1 else 0) (sum widths))
    (HasCount-append _ _ _ _ (HasCount-when (draws_left_border style) (character left) (HasCount-encode _))
    (HasCount-append _ _ _ _ (HasCount-between (draws_vertical_lines style) (character junction) widths pieces (HasCount-encode _) each) (HasCount-when (draws_right_border style) (character right) (HasCount-encode _))))

-- the fills of a frame line have the whole widths of the columns
fills : (fill : Option ℕ) (widths : List ℕ) → AllZip HasCount widths (map (λ (width : ℕ). repeat width (character fill)) widths)
fills fill [] = tt
fills fill (w ∷ widths) = (HasCount-repeat w (character fill) (HasCount-encode _), fills fill widths)

-- a frame line has the border characters and the sum of the widths, before any rest
pub HasCount-frame_line : (style : TableStyle) (line : LineStyle) (widths : List ℕ) → HasCount (border_count style (length widths) + sum widths) (frame_line style line widths)
HasCount-frame_line style line widths =
    HasCount-joined style line.left line.junction line.right widths (map (λ (width : ℕ). repeat width (character line.fill)) widths) (fills line.fill widths)

-- for every style, a frame line has as many characters as the borders and the whole widths of the shown columns
abbrev pub FrameLinesCount : TableStyle → LineStyle → List ColumnInfo → Type 0
FrameLinesCount style line infos =
    count (frame_line style line (outer_widths infos)) ≡ border_count style (length (shown_infos infos)) + sum (outer_widths infos)

-- a frame line has as many characters as the borders and the whole widths
pub frame_lines_count : (style : TableStyle) (line : LineStyle) (infos : List ColumnInfo) → FrameLinesCount style line infos
frame_lines_count style line infos =
    count-is _ _ (HasCount-frame_line style line (outer_widths infos))
    ∙ ap (λ n. border_count style n + sum (outer_widths infos)) (length-map (shown_infos infos) _)
