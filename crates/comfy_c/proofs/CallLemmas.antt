-- The result of a call, and the caller's buffer after it.
use Rattle.std.proofs.Common.{◌≡◌, ◌∙◌, true, cond, List, ℕ, ◌++◌, Err, IsOkAnd, IfOk, Ok, Result, ap, ap₂, drop, inl, length, nat_le, refl, subst, sym, take}
use Rattle.std.proofs.lemmas.List.{take_at}
use Rattle.std.proofs.lemmas.Str.{IsUtf8-string_bytes}
use Rattle.std.specs.Prelude.{IsUtf8}
use Rattle.comfy_parts.specs.Text.{Text}
use Rattle.csv_command.specs.Refusals.{IsRefusedFor}
use Rattle.csv_command.specs.declared.drawing.Refusal.{Refusal}
use Rattle.csv_command.specs.declared.drawing.Refusal.TheVariants.{Arguments, Input, OutOfMemory}
use Rattle.comfy_c.specs.Calls.{IsCommandLine, IsCsvRefusal, IsReturned, with_front}

-- ---- the buffer

module _ (text buffer : Text) where
  -- a text that fits is at the front
  pub front-put : nat_le (length text) (length buffer) ≡ true → with_front text buffer ≡ text ++ drop (length text) buffer
  front-put fits = ap (λ is. cond is (text ++ drop (length text) buffer) buffer) fits

  -- the bytes at the front are the text
  pub front-taken : nat_le (length text) (length buffer) ≡ true → take (length text) (with_front text buffer) ≡ text
  front-taken fits = ap (take (length text)) (front-put fits) ∙ take_at text _ _ refl

module _ (P : Text → Type 0) (bytes buffer : Text) {text after : Text} {needed : ℕ} (counted : needed ≡ length bytes) (put : after ≡ with_front bytes buffer) (same : bytes ≡ text) (so : P text) where
  -- a property of a text is one of the front of a buffer that had room for it
  pub in_front : nat_le (length bytes) (length buffer) ≡ true → P (take needed after)
  in_front fits = subst P (sym (ap₂ take counted put ∙ front-taken bytes buffer fits ∙ same)) so

  -- so it is one of the text that the caller gets
  pub returned : IsReturned P buffer after needed
  returned = record { text = bytes; is_so = subst P (sym same) so; is_counted = counted; is_put = put }

-- ---- drawings

module _ {T E : Type 0} (P : Text → Type 0) (bytes : T → Text) where
  -- a property of a drawing is one of the bytes that a caller gets
  pub of_drawing : (made : Result T E) → IfOk made (λ drawing. P (bytes drawing)) → {text : Text} → IsOkAnd made (λ drawing. bytes drawing ≡ text) → P text
  of_drawing (Ok drawing) so same = subst P same so
  of_drawing (Err refusal) so same = absurd same

  -- the same for a drawing with the length that a caller gets
  pub of_length : (made : Result T E) → IfOk made (λ drawing. P (bytes drawing)) → {needed : ℕ} → IsOkAnd made (λ drawing. length (bytes drawing) ≡ needed) → (drawing : Text) × (needed ≡ length drawing) × P drawing
  of_length (Ok drawing) so same = (bytes drawing, sym same, so)
  of_length (Err refusal) so same = absurd same

-- ---- CSV

-- the reason for a missing drawing, for the arguments that a text holds
pub refused_for : (text input : Text) (line : List Text) → IsUtf8 text → IsCommandLine text line → (refusal : Refusal) → IsRefusedFor line input refusal → IsCsvRefusal text input refusal
refused_for text input line is_text are (Arguments message) is = (IsUtf8-string_bytes message, inl (record { is_text = is_text; arguments = line; are_arguments = are; is_so = is }))
refused_for text input line is_text are (Input message) is = (IsUtf8-string_bytes message, record { is_text = is_text; arguments = line; are_arguments = are; is_so = is })
refused_for text input line is_text are OutOfMemory is = tt
