-- Quotes that are never closed: the state of csv's reader after a text, and the place of such a quote.
use Rattle.std.proofs.Common.{◌≡◌, ◌≤◌, ℕ, true, zero, suc, List, [], ◌∷◌, ◌++◌, codes, drop, map, refl, take}
use Prim.Native.String.{String}
use Rattle.std.specs.List.{list_all, range_with_len}
use Rattle.comfy_parts.specs.Text.{Text}
use Rattle.csv.specs.Reading.{strip_bom}
use Rattle.csv.specs.declared.parser.State.TheVariants as st
use Rattle.csv_records.specs.Quotes.{IsUnclosed, is_in_quoted_field, state_after}

abbrev texts : List String → List Text
texts words = map (λ (word : String). codes word) words

-- after a field's quotes, and within a field without quotes, a quote opens nothing
states :
    map (state_after 0x2C) (texts ("\"" ∷ "a,\"b" ∷ "a\"b" ∷ "\"a\"" ∷ "\"a\"\"" ∷ "\"a\"b\"" ∷ "\"a\",\"" ∷ "\"a,\n" ∷ []))
    ≡ st.InQuoted ∷ st.InQuoted ∷ st.InField ∷ st.AfterQuote ∷ st.InQuoted ∷ st.InField ∷ st.InQuoted ∷ st.InQuoted ∷ []
states = refl

-- other delimiters; if a quote is the delimiter, it opens a field first
other_delimiters : state_after 0x3B (codes "a,\"b") ≡ st.InField
other_delimiters = refl

quote_as_delimiter : map (state_after 0x22) (texts ("\"" ∷ "a\"" ∷ "a\"\"" ∷ [])) ≡ st.InQuoted ∷ st.StartField ∷ st.InQuoted ∷ []
quote_as_delimiter = refl

unclosed : IsUnclosed 0x2C (codes "a,\"b") (codes "\"b")
unclosed = record { before = codes "a,"; parts = refl; after = codes "b"; quote = refl; opens = refl; goes_on = goes_on; is_open = refl }
  where
    goes_on : (n : ℕ) → n ≤ 1 → is_in_quoted_field (state_after 0x2C (codes "a," ++ 0x22 ∷ take n (codes "b"))) ≡ true
    goes_on zero within = refl
    goes_on (suc zero) within = refl
    goes_on (suc (suc n)) within = refl

-- the text after a byte-order mark
marked : strip_bom (0xEF ∷ 0xBB ∷ 0xBF ∷ 0x22 ∷ []) ≡ drop 3 (0xEF ∷ 0xBB ∷ 0xBF ∷ 0x22 ∷ [])
unfolding strip_bom
marked = refl

-- two quotes within a field don't close it
doubled : list_all (λ n. is_in_quoted_field (state_after 0x2C (codes "x\n" ++ 0x22 ∷ take n (codes "a\"\"b")))) (range_with_len 0 5) ≡ true
doubled = refl
