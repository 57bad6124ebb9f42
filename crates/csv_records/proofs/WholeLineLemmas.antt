-- The complete lines of a text: all up to its last line feed.
use Rattle.std.proofs.Common.{◌≡◌, ◌+◌, ◌<◌, ◌≤◌, ◌==◌, ◌||◌, ℕ, zero, suc, Bool, true, false, [], ◌∷◌, ◌++◌, Some, None, length, length-append, take, sym, refl, ap, ◌∙◌, arith}
use Rattle.std.specs.List.{list_any}
use Rattle.std.proofs.lemmas.List.Folds.{list_any_at}
use Rattle.memchr.specs.Find.{IsLastByte, Passes, is_byte}
use Rattle.comfy_parts.specs.Text.{Text}
use Rattle.csv_records.specs.Beginning.{is_line_feed, whole_lines}

-- a text without a line feed has no complete line
none_whole : (text : Text) → list_any is_line_feed text ≡ false → whole_lines text ≡ []
none_whole [] none = refl
none_whole (b ∷ rest) none = rw none refl

some_whole : (b : ℕ) (rest : Text) → list_any is_line_feed (b ∷ rest) ≡ true → whole_lines (b ∷ rest) ≡ b ∷ whole_lines rest
some_whole b rest some = rw some refl

-- a line feed that is at no place isn't in the text
nowhere : (text : Text) → ((k : ℕ) → k < length text → ¬ (Passes (is_byte 0x0A) text k)) → list_any is_line_feed text ≡ false
nowhere [] none = refl
nowhere (b ∷ rest) none = by_first (b == 0x0A) refl (nowhere rest (λ k within here. none (suc k) (omega (arith, within)) here))
  where
    by_first : (v : Bool) → (b == 0x0A) ≡ v → list_any is_line_feed rest ≡ false → (v || list_any is_line_feed rest) ≡ false
    by_first true is after = absurd (none 0 (omega arith) is)
    by_first false is after = after

-- the text up to and with its last line feed is its complete lines
last_whole : (text : Text) (k : ℕ) → k < length text → Passes (is_byte 0x0A) text k → ((i : ℕ) → k + 1 ≤ i → i < length text → ¬ (Passes (is_byte 0x0A) text i)) → take (k + 1) text ≡ whole_lines text
last_whole [] k within here none = absurd (omega (arith, within))
last_whole (b ∷ rest) zero within here none =
    let after = nowhere rest (λ k inside. none (suc k) (omega arith) (omega (arith, inside))) in
    ap (λ t. b ∷ t) (sym (none_whole rest after)) ∙ sym (some_whole b rest (rw here refl))
last_whole (b ∷ rest) (suc k) within here none =
    let after = last_whole rest k (omega (arith, within)) here (λ i after inside. none (suc i) (omega (arith, after)) (omega (arith, inside))) in
    let some : list_any is_line_feed (b ∷ rest) ≡ true = list_any_at is_line_feed (b ∷ rest) (suc k) 0 within here in
    let more : suc k + 1 ≡ suc (k + 1) = omega arith in
    ap (λ n. take n (b ∷ rest)) more ∙ ap (λ t. b ∷ t) after ∙ sym (some_whole b rest some)

-- the complete lines are a prefix of the text
pub whole_front : (text : Text) → (after : Text) × (text ≡ whole_lines text ++ after)
whole_front [] = ([], refl)
whole_front (b ∷ rest) = by_test (list_any is_line_feed (b ∷ rest)) refl (whole_front rest)
  where
    by_test : (some : Bool) → list_any is_line_feed (b ∷ rest) ≡ some → (after : Text) × (rest ≡ whole_lines rest ++ after) → (after : Text) × (b ∷ rest ≡ whole_lines (b ∷ rest) ++ after)
    by_test true is (after, parts) = (after, ap (λ t. b ∷ t) parts ∙ ap (λ t. t ++ after) (sym (some_whole b rest is)))
    by_test false is own = (b ∷ rest, ap (λ t. t ++ (b ∷ rest)) (sym (none_whole (b ∷ rest) is)))

pub whole_length : (text : Text) → length (whole_lines text) ≤ length text
whole_length text =
    let parts = whole_front text in
    let both : length text ≡ length (whole_lines text) + length parts.0 = ap length parts.1 ∙ length-append (whole_lines text) parts.0 in
    omega (arith, both)

-- the complete lines when memrchr finds no line feed
pub no_place : (text : Text) → IsLastByte (is_byte 0x0A) text None → [] ≡ whole_lines text
no_place text none = sym (none_whole text (nowhere text (λ k within. none k (omega arith) within)))

pub at_place : (text : Text) (k : ℕ) → IsLastByte (is_byte 0x0A) text (Some k) → take (k + 1) text ≡ whole_lines text
at_place text k last = last_whole text k last.0.high last.1 last.0.after
