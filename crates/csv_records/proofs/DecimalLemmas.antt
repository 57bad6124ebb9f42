-- The marks and numbers of a column with one field more.
use Rattle.std.proofs.Common.{◌≡◌, ◌&&◌, ◌||◌, Bool, true, false, List, [], ◌∷◌, ◌++◌, ℕ, None, ap, ap₂, fold, map, max, refl, sym, ◌∙◌}
use Rattle.std.proofs.Math.Nat.{max-zero}
use Rattle.std.proofs.lemmas.List.{map-append}
use Rattle.std.proofs.lemmas.List.Folds.{list_all-append, list_any-append}
use Rattle.std.proofs.lemmas.List.Sums.{fold-append}
use Rattle.std.specs.List.{list_all, list_any}
use Rattle.std.specs.Str.{chars}
use Rattle.comfy_parts.specs.Text.{Text}
use Rattle.csv_records.specs.Decimals.{byte_of, decides, digits_in, fraction_len, is_plain, is_readable, marks_of, use_of, use_with}
use Rattle.csv_records.specs.Number.{halves, is_neutral}
use Rattle.csv_records.specs.declared.decimals.ColumnMarks.{ColumnMarks}
use Rattle.csv_records.specs.declared.decimals.DecimalMark.{DecimalMark}
use Rattle.csv_records.specs.declared.decimals.DecimalMark.TheVariants.{Comma, Point}
use Rattle.csv_records.specs.declared.decimals.MarkSummary.{MarkSummary}

or_nothing : (b : Bool) → (b || false) ≡ b
or_nothing true = refl
or_nothing false = refl

and_nothing : (b : Bool) → (b && true) ≡ b
and_nothing true = refl
and_nothing false = refl

all_more : {X : Type 0} (p : X → Bool) (xs : List X) (x : X) → list_all p (xs ++ x ∷ []) ≡ list_all p xs && p x
all_more p xs x = list_all-append p xs (x ∷ []) ∙ ap (λ b. list_all p xs && b) (and_nothing (p x))

any_more : {X : Type 0} (p : X → Bool) (xs : List X) (x : X) → list_any p (xs ++ x ∷ []) ≡ list_any p xs || p x
any_more p xs x = list_any-append p xs (x ∷ []) ∙ ap (λ b. list_any p xs || b) (or_nothing (p x))

use_more : (mark : DecimalMark) (fields : List Text) (field : Text) → use_with mark (use_of mark fields) (digits_in field) ≡ use_of mark (fields ++ field ∷ [])
use_more mark fields field =
    let len : Text → ℕ = λ (f : Text). fraction_len (halves (byte_of mark) (digits_in f)) in
    let decided = any_more (λ (f : Text). decides mark (digits_in f)) fields field in
    let read = all_more (λ (f : Text). is_readable (halves (byte_of mark) (digits_in f))) fields field in
    let longest = ap (fold max 0) (map-append len fields (field ∷ [])) ∙ fold-append max 0 (map len fields) (len field ∷ []) in
    sym (rw (decided, read, longest) refl)

same_parts : (m n : ColumnMarks) → m.are_plain ≡ n.are_plain → m.point ≡ n.point → m.comma ≡ n.comma → m ≡ n
same_parts m n plain point comma = ap (λ (b : Bool). made_of b m.point m.comma) plain ∙ ap₂ (made_of n.are_plain) point comma
  where
    made_of : Bool → MarkSummary → MarkSummary → ColumnMarks
    made_of are_plain point comma = record { are_plain = are_plain; point = point; comma = comma }

pub marks_more : (fields : List Text) (field : Text) (had made : ColumnMarks) → had ≡ marks_of fields
    → made.are_plain ≡ (had.are_plain && is_plain field) → made.point ≡ use_with Point had.point (digits_in field) → made.comma ≡ use_with Comma had.comma (digits_in field)
    → made ≡ marks_of (fields ++ field ∷ [])
marks_more fields field had made same plain point comma =
    let all : made.are_plain ≡ list_all is_plain (fields ++ field ∷ []) = plain ∙ ap (λ (m : ColumnMarks). m.are_plain && is_plain field) same ∙ sym (all_more is_plain fields field) in
    let points : made.point ≡ use_of Point (fields ++ field ∷ []) = point ∙ ap (λ (m : ColumnMarks). use_with Point m.point (digits_in field)) same ∙ use_more Point fields field in
    let commas : made.comma ≡ use_of Comma (fields ++ field ∷ []) = comma ∙ ap (λ (m : ColumnMarks). use_with Comma m.comma (digits_in field)) same ∙ use_more Comma fields field in
    same_parts made (marks_of (fields ++ field ∷ [])) all points commas

-- ---- empty fields

-- digits without a mark leave the use of the mark unchanged
nothing_of : (mark : DecimalMark) (this : MarkSummary) (digits : Text) → halves (byte_of mark) digits ≡ None → this ≡ use_with mark this digits
nothing_of mark this digits none = rw (none, or_nothing this.is_needed, and_nothing this.is_readable, max-zero this.longest) refl

pub empty_is_plain : is_plain [] ≡ true
unfolding chars is_neutral
empty_is_plain = refl

pub empty_says_nothing : (fields : List Text) → marks_of fields ≡ marks_of (fields ++ [] ∷ [])
unfolding chars
empty_says_nothing fields =
    let plain : list_all is_plain fields ≡ (list_all is_plain fields && is_plain []) = rw empty_is_plain (sym (and_nothing (list_all is_plain fields))) in
    marks_more fields [] (marks_of fields) (marks_of fields) refl plain (nothing_of Point (use_of Point fields) (digits_in []) refl) (nothing_of Comma (use_of Comma fields) (digits_in []) refl)
