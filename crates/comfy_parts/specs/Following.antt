-- Private: an element at the front of a text, and the text after it.
-- Source: this library's own.
use Rattle.std.specs.Prelude.{◌≡◌, ◌⊎◌, ℕ, ◌+◌, ◌<◌, ◌≤◌, List, [], ◌∷◌, ◌++◌, length, take, drop, sum_by, false, encode_utf8, IsUtf8, ◌*◌}
use Rattle.std.specs.List.{concat}
use Rattle.std.specs.Str.{IsCharBoundary}
use Rattle.comfy_parts.specs.Text.{Text, measure, clusters, head, elements, begins_with}

-- the text after an element: a delimiter and a text of the elements es, or nothing if there are
-- none
abbrev pub Follow : ℕ → List Text → Text → Type 0
Follow d [] rest = rest ≡ []
Follow d (e ∷ es) rest = (more : Text) × (rest ≡ encode_utf8 d ++ more) × (elements d more ≡ e ∷ es)

-- the text after an element is empty, or begins with a delimiter
abbrev pub EndsElement : ℕ → Text → Type 0
EndsElement d after = (after ≡ []) ⊎ ((more : Text) × (after ≡ encode_utf8 d ++ more))

-- the first element of a text, and the text after it, both in whole characters
pub record IsFirstElement (d : ℕ) (text first after : Text) : Type 0 where
  pub others : List Text
  pub elements_are : elements d text ≡ first ∷ others
  pub follow : Follow d others after
  pub joined : first ++ after ≡ text
  pub whole_first : IsUtf8 first
  pub whole_after : IsUtf8 after

-- the first element of a text takes `columns` terminal columns, and is followed by `after`
pub record IsSummed (d : ℕ) (text after : Text) (columns : ℕ) : Type 0 where
  pub word : Text
  pub element : IsFirstElement d text word after
  pub columns_are : columns ≡ measure word
  pub bound : columns ≤ 2 * length word

-- each suffix of a word with at least `bytes` bytes is wider than w terminal columns
abbrev pub IsWideFrom : ℕ → ℕ → Text → Type 0
IsWideFrom w bytes word =
    (front tail : Text) → word ≡ front ++ tail → IsUtf8 front → IsUtf8 tail → bytes ≤ length tail
    → w < measure tail

-- the width of a word in terminal columns if it is at most w, and otherwise any number greater than
-- w
pub record AreColumnsUpTo (w columns : ℕ) (word : Text) : Type 0 where
  pub fits : columns ≤ w → columns ≡ measure word
  pub wider : w < columns → w < measure word

-- a text that begins a line of w terminal columns: its first element has `first` bytes and takes
-- `columns` terminal columns, and each suffix of it with at least `shown` bytes is wider than the
-- line
pub record IsAtLine (w d : ℕ) (text : Text) (first columns shown : ℕ) : Type 0 where
  pub narrow : w ≤ 65535
  pub whole : IsUtf8 text
  pub begins_otherwise : begins_with d text ≡ false
  pub boundary : IsCharBoundary text first
  pub element : IsFirstElement d text (take first text) (drop first text)
  pub columns_are : AreColumnsUpTo w columns (take first text)
  pub wide_from : IsWideFrom w shown (take first text)

-- the last `left` bytes of a text begin with an element of `first` bytes and `columns` terminal
-- columns
pub record IsMeasured (d : ℕ) (text : Text) (left first columns : ℕ) : Type 0 where
  pub front : Text
  pub others : Text
  pub splits : text ≡ front ++ others
  pub left_is : length others ≡ left
  pub boundary : IsCharBoundary others first
  pub element : IsFirstElement d others (take first others) (drop first others)
  pub columns_are : columns ≡ measure (take first others)

-- the text is the end of a longer text, whose last `left` bytes begin with an element of `first`
-- bytes and `columns` terminal columns
abbrev pub IsMeasuredAtEnd : ℕ → Text → ℕ → ℕ → ℕ → Type 0
IsMeasuredAtEnd d text left first columns =
    (whole : Text) × (before : Text) × (whole ≡ before ++ text)
    × IsMeasured d whole left first columns

-- the text adds `to - from` terminal columns to every text before it
abbrev pub FillsTo : ℕ → ℕ → Text → Type 0
FillsTo from to text =
    (front : Text) → IsUtf8 front → measure (front ++ text) + from ≡ measure front + to

-- the first text ends with the second one
abbrev pub EndsWith : Text → Text → Type 0
EndsWith text end = (front : Text) × (text ≡ front ++ end)

-- the head of a text for k terminal columns is its first `bytes` bytes
pub record EndsHead (k : ℕ) (text : Text) (bytes : ℕ) : Type 0 where
  pub boundary : IsCharBoundary text bytes
  pub head_is : take bytes text ≡ head k text

-- the first cluster that has no room in k terminal columns after the clusters before it: its
-- position, its bytes, and the terminal columns by which it is too wide
pub record IsFirstWide (k : ℕ) (text : Text) (at bytes beyond : ℕ) : Type 0 where
  pub before : List Text
  pub cluster : Text
  pub others : List Text
  pub clusters_are : clusters text ≡ before ++ cluster ∷ others
  pub at_is : length (concat before) ≡ at
  pub boundary : IsCharBoundary text at
  pub bytes_are : length cluster ≡ bytes
  pub whole : IsUtf8 cluster
  pub room_before : sum_by measure before ≤ k
  pub beyond_is : sum_by measure before + measure cluster ≡ k + beyond
  pub too_wide : 0 < beyond
