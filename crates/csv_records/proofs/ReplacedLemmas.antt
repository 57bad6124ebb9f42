-- The bytes of characters that are replaced.
use Rattle.std.proofs.Common.{◌≡◌, ◌||◌, ◌+◌, ◌/◌, ◌%◌, ℕ, Bool, true, false, cond, List, [], ◌∷◌, IsUtf8, chars, encode_utf8, encode_utf8_all, ap, arith, refl, sym, ◌∙◌}
use Rattle.std.proofs.lemmas.Bool.{or_from, or_parts, true≢false}
use Rattle.std.proofs.lemmas.Bool.Decides.{nat_tests}
use Rattle.std.proofs.lemmas.List.Folds.{list_any-append}
use Rattle.std.proofs.lemmas.Str.{encodes-chars}
use Rattle.std.specs.List.{list_any}
use lib.Dec.{ltb}
use lib.Utf8.{encode}
use Rattle.comfy_parts.specs.Text.{Text}
use Rattle.csv_records.specs.Cleaning.{is_replaced, may_begin_replaced}

-- if the first byte passes, some byte passes
at_front : (b : ℕ) (bs : Text) → may_begin_replaced b ≡ true → list_any may_begin_replaced (b ∷ bs) ≡ true
at_front b bs passes = ap (λ (is : Bool). is || list_any may_begin_replaced bs) passes

-- the UTF-8 of a replaced character has a byte for which `may_begin_replaced` is true
begins_so : (c : ℕ) → is_replaced c ≡ true → list_any may_begin_replaced (encode_utf8 c) ≡ true
unfolding encode
begins_so c replaced = by_size (ltb c 128) (ltb c 2048) (ltb c 65536) refl refl refl
  where
    by_size : (one two three : Bool) → ltb c 128 ≡ one → ltb c 2048 ≡ two → ltb c 65536 ≡ three
        → list_any may_begin_replaced (cond one (c ∷ []) (cond two ((192 + c / 64) ∷ (128 + c % 64) ∷ []) (cond three ((224 + c / 4096) ∷ (128 + (c / 64) % 64) ∷ (128 + c % 64) ∷ []) ((240 + c / 262144) ∷ (128 + (c / 4096) % 64) ∷ (128 + (c / 64) % 64) ∷ (128 + c % 64) ∷ [])))) ≡ true
    by_size true two three is_one is_two is_three = at_front c [] (grind (arith, nat_tests, replaced, is_one))
    by_size false true three is_one is_two is_three = at_front (192 + c / 64) ((128 + c % 64) ∷ []) (grind (arith, nat_tests, replaced, is_one, is_two))
    by_size false false true is_one is_two is_three = at_front (224 + c / 4096) ((128 + (c / 64) % 64) ∷ (128 + c % 64) ∷ []) (grind (arith, nat_tests, replaced, is_two, is_three))
    by_size false false false is_one is_two is_three = absurd (grind (arith, nat_tests, replaced, is_three))

-- a text without a byte for which `may_begin_replaced` is true has no replaced characters
none_encoded : (cs : List ℕ) → list_any may_begin_replaced (encode_utf8_all cs) ≡ false → list_any is_replaced cs ≡ false
none_encoded [] none = refl
none_encoded (c ∷ cs) none =
    let both = or_parts (list_any may_begin_replaced (encode_utf8 c)) (list_any may_begin_replaced (encode_utf8_all cs)) (sym (list_any-append may_begin_replaced (encode_utf8 c) (encode_utf8_all cs)) ∙ none) in
    or_from (is_replaced c) (list_any is_replaced cs) (own both.0 (is_replaced c) refl) (none_encoded cs both.1)
  where
    own : list_any may_begin_replaced (encode_utf8 c) ≡ false → (is : Bool) → is_replaced c ≡ is → is ≡ false
    own clear false is = refl
    own clear true is = absurd (true≢false (sym (begins_so c is) ∙ clear))

pub none_without : (text : Text) → IsUtf8 text → list_any may_begin_replaced text ≡ false → list_any is_replaced (chars text) ≡ false
none_without text utf8 none = none_encoded (chars text) (ap (list_any may_begin_replaced) (encodes-chars text utf8) ∙ none)
