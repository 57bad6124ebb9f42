-- The width in terminal columns of a line of whole elements, if its delimiter adds one terminal column.
use Rattle.std.proofs.Common.{◌≡◌, ℕ, ◌+◌, Bool, true, false, [], ◌++◌, Option, None, Some, length, take, drop, refl, sym, ap, ◌∙◌, arith, append-nil, append_assoc, length-append, take_at}
use Rattle.std.proofs.Math.Seq.{take-add}
use Rattle.std.proofs.lemmas.Str.{IsUtf8-append, IsUtf8-nil}
use Rattle.std.specs.Bool.{then_some}
use Rattle.std.specs.Char.{IsScalar}
use Rattle.std.specs.Prelude.{IfSome, encode_utf8, IsUtf8}
use Rattle.cluster_width.proofs.SpaceMeasureLemmas.{measure-nil, one_character}
use Rattle.comfy_parts.specs.Columns.{AddsOneColumn}
use Rattle.comfy_parts.specs.Following.{FillsTo, IsFirstElement}
use Rattle.comfy_parts.specs.Text.{Text, measure}

-- a property holds for the value of `then_some b x` if it holds whenever b is true
pub if-then_some : {T : Type 0} (b : Bool) (x : T) (P : T → Type 0) → (b ≡ true → P x) → IfSome (then_some b x) P
if-then_some true x P holds = holds refl
if-then_some false x P holds = tt

-- a delimiter that adds one terminal column takes one by itself
pub one_column : (d : ℕ) → AddsOneColumn d → measure (encode_utf8 d) ≡ 1
one_column d adds =
    let none = measure-nil in
    ap measure (sym (append-nil (encode_utf8 d))) ∙ adds [] [] IsUtf8-nil ∙ omega (arith, none)

-- the part of a text that a line has passed after its first element: whole characters, which fill the line from `from`
-- to `to` terminal columns
pub record HasPassed (d from to : ℕ) (after rest : Text) : Type 0 where
  pub passed : Text
  pub splits : after ≡ passed ++ rest
  pub whole : IsUtf8 passed
  pub fills : AddsOneColumn d → FillsTo from to passed

-- at first the line has passed nothing
pub passed-none : (d from : ℕ) (after : Text) → HasPassed d from from after after
passed-none d from after = record { passed = []; splits = refl; whole = IsUtf8-nil; fills = λ _ front _. ap (λ (t : Text). measure t + from) (append-nil front) }

-- then the line passes a delimiter and one more element
pub passed-next : (d from to : ℕ) (after rest others next following : Text) → IsScalar d → HasPassed d from to after rest → rest ≡ encode_utf8 d ++ others → IsFirstElement d others next following
    → (to' : ℕ) → to' ≡ to + (measure next + measure (encode_utf8 d)) → HasPassed d from to' after following
passed-next d from to after rest others next following scalar before splits element to' sum =
    let step : rest ≡ (encode_utf8 d ++ next) ++ following = splits ∙ ap (λ (t : Text). encode_utf8 d ++ t) (sym element.joined) ∙ sym (append_assoc (encode_utf8 d) next following) in
    record {
      passed = before.passed ++ (encode_utf8 d ++ next);
      splits = before.splits ∙ ap (λ (t : Text). before.passed ++ t) step ∙ sym (append_assoc before.passed (encode_utf8 d ++ next) following);
      whole = IsUtf8-append before.passed (encode_utf8 d ++ next) before.whole (IsUtf8-append (encode_utf8 d) next (one_character d scalar).0 element.whole_first);
      fills = λ adds front utf8.
          let all = ap measure (sym (append_assoc front before.passed (encode_utf8 d ++ next))) ∙ adds (front ++ before.passed) next (IsUtf8-append front before.passed utf8 before.whole) in
          let one = one_column d adds in
          let filled = before.fills adds front utf8 in
          omega (arith, all, one, filled, sum);
    }

-- the bytes that were passed fill the line up to `to`
pub passed-bytes : (d from to : ℕ) (after rest : Text) → HasPassed d from to after rest → (bytes : ℕ) → bytes + length rest ≡ length after → AddsOneColumn d → FillsTo from to (take bytes after)
passed-bytes d from to after rest is bytes size adds =
    let long = ap length is.splits ∙ length-append is.passed rest in
    let here : take bytes after ≡ is.passed = ap (take bytes) is.splits ∙ take_at is.passed rest bytes (omega (arith, long, size)) in
    rw here (is.fills adds)

-- the width of a line is that of its first element and of the bytes after it
pub line-columns : (d : ℕ) (text after : Text) (first from bytes : ℕ) → AddsOneColumn d → IsUtf8 (take first text) → from ≡ measure (take first text) → after ≡ drop first text → (columns : Option ℕ)
    → IfSome columns (λ to. AddsOneColumn d → FillsTo from to (take bytes after)) → IfSome columns (λ to. to ≡ measure (take (first + bytes) text))
line-columns d text after first from bytes adds utf8 columns back None fills = tt
line-columns d text after first from bytes adds utf8 columns back (Some to) fills =
    let all = fills adds (take first text) utf8 in
    let joined = ap measure (take-add first bytes text ∙ ap (λ (t : Text). take first text ++ take bytes t) (sym back)) in
    omega (arith, all, columns, joined)
