-- The words of a text line, and how long they are.
use Rattle.std.proofs.Common.{◌≡◌, ◌==◌, ◌+◌, ◌&&◌, ℕ, Bool, true, false, List, [], ◌∷◌, ap, ap₂, arith, length, map, max, refl, sym, ◌∙◌}
use Rattle.std.proofs.lemmas.Bool.{and_from, and_parts}
use Rattle.std.proofs.lemmas.List.Splits.{slice_split-cons_no, slice_split-cons_yes}
use Rattle.std.specs.Int.{is_in_range}
use Rattle.std.specs.List.{list_all, onto_first, slice_split}
use Rattle.std.specs.Prelude.{if◌then◌else◌}
use Rattle.comfy_parts.specs.Text.{Text, greatest, is_printable_ascii, measure}
use Rattle.comfy_parts.proofs.CallerLemmas.{measure-printable}
use Rattle.csv_tables.specs.NoWrap.{word_width}

abbrev pub words : Text → List Text
words line = slice_split (λ b. b == 0x20) line

-- the words of printable ASCII are printable
record AreWords (line : Text) : Type 0 where
  first : Text
  others : List Text
  are : words line ≡ first ∷ others
  printable : is_printable_ascii line ≡ true → map measure (first ∷ others) ≡ map length (first ∷ others)
  first_printable : is_printable_ascii line ≡ true → is_printable_ascii first ≡ true

words_of : (line : Text) → AreWords line
words_of [] = record { first = []; others = []; are = refl; printable = λ is. ap (λ (n : ℕ). n ∷ []) (measure-printable [] refl); first_printable = λ is. refl }
words_of (b ∷ line) = by_test (b == 0x20) refl (words_of line)
  where
    by_test : (t : Bool) → (b == 0x20) ≡ t → AreWords line → AreWords (b ∷ line)
    by_test true is more =
        record {
          first = [];
          others = words line;
          are = slice_split-cons_yes (λ x. x == 0x20) b line is;
          printable = λ all.
              ap₂ (λ (n : ℕ) (ns : List ℕ). n ∷ ns) (measure-printable [] refl)
              (ap (map measure) more.are ∙ more.printable (and_parts (is_in_range 0x20 0x7E b) (is_printable_ascii line) all).1 ∙ sym (ap (map length) more.are));
          first_printable = λ all. refl;
        }
    by_test false is more =
        record {
          first = b ∷ more.first;
          others = more.others;
          are = slice_split-cons_no (λ x. x == 0x20) b line is ∙ ap (onto_first b) more.are;
          printable = λ all.
              let parts = and_parts (is_in_range 0x20 0x7E b) (is_printable_ascii line) all in
              let own = and_from (is_in_range 0x20 0x7E b) (is_printable_ascii more.first) parts.0 (more.first_printable parts.1) in
              ap₂ (λ (n : ℕ) (ns : List ℕ). n ∷ ns) (measure-printable (b ∷ more.first) own) (ap (λ (ns : List ℕ). tail ns) (more.printable parts.1));
          first_printable = λ all.
              let parts = and_parts (is_in_range 0x20 0x7E b) (is_printable_ascii line) all in
              and_from (is_in_range 0x20 0x7E b) (is_printable_ascii more.first) parts.0 (more.first_printable parts.1);
        }
      where
        tail : List ℕ → List ℕ
        tail [] = []
        tail (n ∷ ns) = ns

-- in printable ASCII the widest word is the longest
pub widest_is_longest : (line : Text) → is_printable_ascii line ≡ true → greatest (map length (words line)) ≡ word_width line
widest_is_longest line is =
    let own = words_of line in
    ap greatest (ap (map length) own.are ∙ sym (own.printable is) ∙ sym (ap (map measure) own.are))

-- the longest word, if a word goes on at the front after this many bytes
abbrev pub longest_after : ℕ → Text → ℕ
longest_after len [] = len
longest_after len (b ∷ line) = if b == 0x20 then max len (longest_after 0 line) else longest_after (len + 1) line

-- the longest of some words, of which the first goes on after this many bytes
abbrev longest_of : ℕ → List Text → ℕ
longest_of len [] = len
longest_of len (first ∷ others) = max (len + length first) (greatest (map length others))

none_before : (words : List Text) → longest_of 0 words ≡ greatest (map length words)
none_before [] = refl
none_before (first ∷ others) = ap (λ (n : ℕ). max n (greatest (map length others))) (let none : 0 + length first ≡ length first = omega arith in none)

after_words : (len : ℕ) (line : Text) → longest_after len line ≡ longest_of len (words line)
after_words len [] = omega arith
after_words len (b ∷ line) = by_test (b == 0x20) refl (after_words 0 line) (after_words (len + 1) line)
  where
    by_test : (t : Bool) → (b == 0x20) ≡ t → longest_after 0 line ≡ longest_of 0 (words line) → longest_after (len + 1) line ≡ longest_of (len + 1) (words line)
        → longest_after len (b ∷ line) ≡ longest_of len (words (b ∷ line))
    by_test true is new on =
        let none : len ≡ len + 0 = omega arith in
        let next : longest_after 0 line ≡ greatest (map length (words line)) = new ∙ none_before (words line) in
        let step : longest_after len (b ∷ line) ≡ max len (longest_after 0 line) = rw is refl in
        step ∙ ap₂ (λ (m n : ℕ). max m n) none next ∙ ap (longest_of len) (sym (slice_split-cons_yes (λ x. x == 0x20) b line is))
    by_test false is new on =
        let own = words_of line in
        let step : longest_after len (b ∷ line) ≡ longest_after (len + 1) line = rw is refl in
        let more : (len + 1) + length own.first ≡ len + length (b ∷ own.first) = omega arith in
        step ∙ on ∙ ap (longest_of (len + 1)) own.are ∙ ap (λ (n : ℕ). max n (greatest (map length own.others))) more
        ∙ ap (longest_of len) (sym (slice_split-cons_no (λ x. x == 0x20) b line is ∙ ap (onto_first b) own.are))

pub longest_from_start : (line : Text) → longest_after 0 line ≡ greatest (map length (words line))
longest_from_start line = after_words 0 line ∙ none_before (words line)
