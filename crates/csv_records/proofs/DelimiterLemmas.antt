-- The delimiter that a text names.
use Rattle.std.proofs.Common.{◌≡◌, ◌≢◌, ℕ, Bool, true, false, [], ◌∷◌, ◌++◌, Option, Some, None, Bor, MatchOption, ap, drop, encode_utf8, refl, subst, sym, ◌∙◌}
use Rattle.std.specs.Option.{option_map, unwrap_or}
use Rattle.std.specs.Prelude.{if◌then◌else◌}
use Rattle.std.specs.Str.Pattern.{FindsCharPrefix, StripsPrefix}
use Rattle.comfy_parts.specs.Text.{Text}
use Rattle.csv.specs.Reading.{is_bom, strip_bom}
use Rattle.csv_records.proofs.LineLemmas.{EndsIn-trans, line-EndsIn}
use Rattle.csv_records.proofs.TextLemmas.{bom, mark_in}
use Rattle.csv_records.specs.Delimiter.{named_delimiter, delimiter_in}
use Rattle.csv_records.specs.Lines.{EndsIn, below_line, first_line}

-- ---- byte-order marks

strip_mark : (text rest : Text) → text ≡ encode_utf8 0xFEFF ++ rest → strip_bom text ≡ rest
unfolding strip_bom
strip_mark text rest is = ap strip_bom (is ∙ ap (λ (t : Text). t ++ rest) bom)

no_mark : (text : Text) → ((rest : Text) → text ≢ encode_utf8 0xFEFF ++ rest) → strip_bom text ≡ text
unfolding strip_bom
no_mark [] none = refl
no_mark (a ∷ []) none = refl
no_mark (a ∷ b ∷ []) none = refl
no_mark (a ∷ b ∷ c ∷ rest) none = by_bom (is_bom a b c) refl
  where
    by_bom : (v : Bool) → is_bom a b c ≡ v → ◌≡◌ {A = Text} (if v then rest else a ∷ b ∷ c ∷ rest) (a ∷ b ∷ c ∷ rest)
    by_bom false is = refl
    by_bom true is = absurd (none rest (mark_in a b c rest is))

pub mark_stripped : (text : Bor Text) (o : Option (Bor Text))
    → MatchOption o ((rest : Text) → text.now ≢ encode_utf8 0xFEFF ++ rest) (λ x. StripsPrefix (FindsCharPrefix 0xFEFF) text.now x.now)
    → (unwrap_or o text).now ≡ strip_bom text.now
mark_stripped text None none = sym (no_mark text.now none)
mark_stripped text (Some x) (n, at, is, len) = is ∙ sym (strip_mark text.now (drop n text.now) at.split)

-- a text without its byte-order mark is a suffix of the text
pub mark-EndsIn : (text : Text) → EndsIn text (strip_bom text)
unfolding strip_bom
mark-EndsIn [] = ([], refl)
mark-EndsIn (a ∷ []) = ([], refl)
mark-EndsIn (a ∷ b ∷ []) = ([], refl)
mark-EndsIn (a ∷ b ∷ c ∷ rest) = by_bom (is_bom a b c)
  where
    by_bom : (v : Bool) → EndsIn (a ∷ b ∷ c ∷ rest) (if v then rest else a ∷ b ∷ c ∷ rest)
    by_bom false = ([], refl)
    by_bom true = (a ∷ b ∷ c ∷ [], refl)

-- ---- a delimiter that is named

-- the text after a first line that names the delimiter is a suffix of the text
pub named_delimiter-EndsIn : (text rest : Text) (b : ℕ) → named_delimiter text ≡ Some (b, rest) → EndsIn text rest
named_delimiter-EndsIn text rest b is = by_name (delimiter_in (first_line (strip_bom text))) is
  where
    with_rest : ℕ → ℕ × Text
    with_rest d = (d, below_line (strip_bom text))

    by_name : (o : Option ℕ) → option_map with_rest o ≡ Some (b, rest) → EndsIn text rest
    by_name None is = absurd (cc is)
    by_name (Some d) is =
        let same = ap (λ (p : Option (ℕ × Text)). (unwrap_or p (b, rest)).1) is in
        subst (λ (end : Text). EndsIn text end) same (EndsIn-trans text (strip_bom text) (below_line (strip_bom text)) (mark-EndsIn text) (line-EndsIn (strip_bom text)))
