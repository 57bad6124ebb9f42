-- The indicator of a new table adds one terminal column.
use Rattle.std.proofs.Common.{◌≡◌, ◌+◌, ◌++◌, [], length, refl, sym, ap, ◌∙◌, arith, append-nil}
use Rattle.std.specs.Prelude.{chars, encode_utf8}
use Rattle.comfy_parts.proofs.CallerLemmas.{IsUtf8-printable, frame_adds, measure-nil, measure-printable, one_character}
use Rattle.comfy_parts.proofs.Computing.{wrapping}
use Rattle.comfy_parts.specs.Text.{AddsOneColumnEach, Text, measure}
use Rattle.comfy_table.specs.TableValue.{ellipsis}

ellipsis_is : encode_utf8 0x2026 ≡ ellipsis
unfolding wrapping
ellipsis_is = refl

one : length (chars ellipsis) ≡ 1
one = ap (λ (text : Text). length (chars text)) (sym ellipsis_is) ∙ ap length (one_character 0x2026 refl).1

pub ellipsis_adds : AddsOneColumnEach ellipsis
ellipsis_adds p printable =
    let added : measure (p ++ (encode_utf8 0x2026 ++ [])) ≡ measure p + (1 + measure []) = frame_adds 0x2026 refl p [] (IsUtf8-printable p printable) in
    let same : measure (p ++ (encode_utf8 0x2026 ++ [])) ≡ measure (p ++ ellipsis) = ap (λ (text : Text). measure (p ++ text)) (append-nil (encode_utf8 0x2026) ∙ ellipsis_is) in
    let own = measure-printable p printable in
    omega (arith, added, same, own, measure-nil, one)
