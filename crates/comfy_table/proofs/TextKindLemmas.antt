-- Kinds of texts that joining and splitting keep: texts without a byte, and texts without some characters.
use Rattle.std.proofs.Common.{◌≡◌, ◌<◌, ◌-◌, ◌==◌, ℕ, Bool, false, List, [], ◌∷◌, ◌++◌, Option, encode_utf8, nat_lt, refl, sym, ap, ◌∙◌, subst, arith, append_assoc, append-nil, unwrap_or}
use Rattle.std.specs.List.{All, list_any}
use Rattle.std.specs.Str.{IsUtf8, NoCharPasses, NonePass, encode_utf8_all}
use Rattle.std.proofs.lemmas.Bool.{cond_both}
use Rattle.std.proofs.lemmas.List.Elements.{All-weaker}
use Rattle.std.proofs.lemmas.Str.{NoCharPasses-append, NoCharPasses-nil, cons_from_encodes, encode_ascii}
use Rattle.comfy_parts.proofs.CallerLemmas.{All-none, HasNo-append, HasNo-parts, encoded_clear, head-splits, head-utf8, lines_of_text-each}
use Rattle.comfy_parts.specs.Columns.{style_characters}
use Rattle.comfy_parts.specs.Text.{HasNo, Text, measure, head}
use Rattle.comfy_parts.specs.Wrapping.{lines_of_text}
use Rattle.comfy_parts.specs.declared.style.table_style.TableStyle.{TableStyle}
use Rattle.comfy_table.specs.Frame.{character}
use Rattle.comfy_table.specs.Laws.{IsStyleWithout}
use Rattle.comfy_table.specs.Lines.{fitting_indicator, cut_text}

-- a kind that joining and splitting keep, and that includes spaces
pub record IsKind (C : Text → Type 0) : Type 0 where
  pub nothing : C []
  pub space : C (0x20 ∷ [])
  pub joined : (xs ys : Text) → C xs → C ys → C (xs ++ ys)
  pub parts : (xs ys : Text) → IsUtf8 xs → C (xs ++ ys) → C xs × C ys

-- the characters of the style belong to the kind
abbrev pub IsStyleOf : (Text → Type 0) → TableStyle → Type 0
IsStyleOf C style = All (λ (c : Option ℕ). C (character c)) (style_characters style)

-- ---- texts without a byte

pub byte_kind : (b : ℕ) → HasNo b (0x20 ∷ []) → IsKind (HasNo b)
byte_kind b space = record { nothing = refl; space = space; joined = HasNo-append b; parts = λ xs ys utf8. HasNo-parts b xs ys }

pub byte_style : (b : ℕ) (style : TableStyle) → b < 128 → IsStyleWithout b style → IsStyleOf (HasNo b) style
byte_style b style seven none =
    All-weaker (λ (c : Option ℕ). (unwrap_or c 0x20 == b) ≡ false) (λ (c : Option ℕ). HasNo b (character c)) (λ c. encoded_clear b (unwrap_or c 0x20) seven) (style_characters style)
    (All-none (λ (c : Option ℕ). unwrap_or c 0x20 == b) (style_characters style) none)

-- ---- texts without characters that pass a test

module _ (p : ℕ → Bool) where
  one_none : (c : ℕ) → p c ≡ false → NoCharPasses p (encode_utf8 c)
  one_none c fails = (c ∷ [], append-nil (encode_utf8 c), (fails, tt))

  -- if no character of a text passes the test, none of its front and none of the rest does
  parts_none : (front cs : List ℕ) (back : Text) → encode_utf8_all cs ≡ encode_utf8_all front ++ back → NonePass p cs → NonePass p front × NoCharPasses p back
  parts_none [] cs back is none = (tt, (cs, is, none))
  parts_none (c ∷ front) cs back is none =
      let found = cons_from_encodes cs (encode_utf8_all front ++ back) c (is ∙ append_assoc (encode_utf8 c) (encode_utf8_all front) back) in
      let both = subst (NonePass p) found.1 none in
      let rest = parts_none front found.0 back found.2 both.1 in
      ((both.0, rest.0), rest.1)

  pub character_kind : p 0x20 ≡ false → IsKind (NoCharPasses p)
  character_kind space =
      record {
        nothing = NoCharPasses-nil p;
        space = subst (NoCharPasses p) (encode_ascii 0x20 (omega arith)) (one_none 0x20 space);
        joined = NoCharPasses-append p;
        parts = λ xs ys utf8 none.
            let both = parts_none utf8.0 none.0 ys (none.1 ∙ ap (λ (front : Text). front ++ ys) (sym utf8.1.1)) none.2 in
            ((utf8.0, utf8.1.1, both.0), both.1);
      }

  pub character_style : (style : TableStyle) → list_any (λ (c : Option ℕ). p (unwrap_or c 0x20)) (style_characters style) ≡ false → IsStyleOf (NoCharPasses p) style
  character_style style none =
      All-weaker (λ (c : Option ℕ). p (unwrap_or c 0x20) ≡ false) (λ (c : Option ℕ). NoCharPasses p (character c)) (λ c. one_none (unwrap_or c 0x20)) (style_characters style)
      (All-none (λ (c : Option ℕ). p (unwrap_or c 0x20)) (style_characters style) none)

-- ---- lines of cells

module _ (C : Text → Type 0) (kind : IsKind C) where
  -- the lines of a text of the kind belong to it
  pub lines-kept : (w d : ℕ) (text : Text) → IsUtf8 text → C text → All C (lines_of_text w d text)
  lines-kept w d text utf8 own = lines_of_text-each C (λ xs ys front back. kind.parts xs ys front) w d text utf8 own

  -- a cut line of texts of the kind belongs to it
  pub cut_text-kept : (w : ℕ) (indicator line : Text) → C indicator → IsUtf8 line → C line → C (cut_text w indicator line)
  cut_text-kept w indicator line mark utf8 own =
      let k = w - measure (fitting_indicator w indicator) in
      let front = head-splits k line utf8 in
      kind.joined (head k line) (fitting_indicator w indicator) (kind.parts (head k line) front.0 (head-utf8 k line utf8) (subst C front.1 own)).0
      (cond_both (nat_lt w (measure indicator)) [] indicator C (λ _. kind.nothing) (λ _. mark))
