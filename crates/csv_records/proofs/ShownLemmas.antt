-- Line feeds are the only control characters in texts for messages.
use Rattle.std.proofs.Common.{◌≡◌, ◌==◌, ◌&&◌, ◌||◌, ℕ, Bool, true, false, List, [], ◌∷◌, chars, map, refl, ap, ap₂, ◌∙◌}
use Rattle.std.proofs.lemmas.Bool.{and_parts}
use Rattle.std.proofs.Math.Utf8.{scalar as scalar_of}
use Rattle.std.proofs.lemmas.Str.{chars-encodes, scalars-chars}
use Rattle.std.specs.List.{list_any}
use Rattle.std.specs.Prelude.{if◌then◌else◌}
use Rattle.std.specs.Str.{IsUtf8, all_scalars}
use Rattle.comfy_parts.specs.Text.{Text}
use Rattle.csv_records.specs.Cleaning.{is_harmful, is_replaced}
use Rattle.csv_records.specs.Shown.{shown_in, shown_text}

scalar : (keeps : Bool) (c : ℕ) → scalar_of c ≡ true → scalar_of (shown_in keeps c) ≡ true
scalar keeps c is = by_tests (keeps && (c == 0x0A)) (is_replaced c)
  where
    by_tests : (stays replaced : Bool) → scalar_of (if stays then c else if replaced then 0xFFFD else c) ≡ true
    by_tests true replaced = is
    by_tests false true = refl
    by_tests false false = is

scalars : (keeps : Bool) (cs : List ℕ) → all_scalars cs ≡ true → all_scalars (map (shown_in keeps) cs) ≡ true
scalars keeps [] all = refl
scalars keeps (c ∷ cs) all =
    let both = and_parts (scalar_of c) (all_scalars cs) all in
    ap₂ (λ a b. a && b) (scalar keeps c both.0) (scalars keeps cs both.1)

none : (keeps : Bool) (c : ℕ) → is_harmful (shown_in keeps c) ≡ false
none keeps c = by_tests keeps (c == 0x0A) (is_replaced c) refl refl
  where
    by_tests : (keeps feed replaced : Bool) → (c == 0x0A) ≡ feed → is_replaced c ≡ replaced → is_harmful (if keeps && feed then c else if replaced then 0xFFFD else c) ≡ false
    by_tests true true false is own = rw own refl
    by_tests true true true is own = rw (own, is) refl
    by_tests true false false is own = rw own refl
    by_tests true false true is own = refl
    by_tests false feed false is own = rw own refl
    by_tests false feed true is own = refl

none_of : (keeps : Bool) (cs : List ℕ) → list_any is_harmful (map (shown_in keeps) cs) ≡ false
none_of keeps [] = refl
none_of keeps (c ∷ cs) = ap₂ (λ a b. a || b) (none keeps c) (none_of keeps cs)

pub harmless : (keeps : Bool) (text : Text) → IsUtf8 text → list_any is_harmful (chars (shown_text keeps text)) ≡ false
harmless keeps text utf8 =
    ap (list_any is_harmful) (chars-encodes (map (shown_in keeps) (chars text)) (scalars keeps (chars text) (scalars-chars text utf8))) ∙ none_of keeps (chars text)
