-- A suffix that is at least two terminal columns too wide shows that each longer suffix is too wide.
use Rattle.std.proofs.Common.{◌≡◌, ◌<◌, ◌≤◌, ◌++◌, ◌∙◌, ℕ, ◌+◌, ◌-◌, length, take, drop, sym, ap, ap₂, subst, arith, length-append, take-add, [], refl}
use Rattle.std.proofs.Math.Seq.{drop-append-add, drop-append_seam, take-append_seam}
use Rattle.std.proofs.lemmas.List.{append_assoc, take-append-drop}
use Rattle.std.proofs.lemmas.Str.{IsCharBoundary-from_drop, IsUtf8-append, IsUtf8-drop, IsUtf8-nil, IsUtf8-take}
use Rattle.std.specs.Str.{IsCharBoundary, IsUtf8}
use Rattle.cluster_width.proofs.TailLemmas.{measure-tail}
use Rattle.comfy_parts.specs.Following.{AreColumnsUpTo, IsFirstElement, IsWideFrom}
use Rattle.comfy_parts.specs.Text.{Text, measure}

wide-from : (w : ℕ) (word front end : Text) → word ≡ front ++ end → IsUtf8 end → w + 1 < measure end → IsWideFrom w (length end) word
wide-from w word a end joins utf8 wide front tail splits before after long =
    let n = length a - length front in
    let lengths : length a + length end ≡ length front + length tail = sym (length-append a end) ∙ ap length (sym joins ∙ splits) ∙ length-append front tail in
    let place : length front + n ≡ length a = omega (arith, lengths, long) in
    let inside : n ≤ length tail = omega (arith, lengths, long) in
    let same : drop n tail ≡ end = sym (drop-append-add front tail n) ∙ ap₂ (λ (i : ℕ) (t : Text). drop i t) place (sym splits ∙ joins) ∙ drop-append_seam a end in
    let whole : take n tail ++ end ≡ tail = ap (λ t. take n tail ++ t) (sym same) ∙ take-append-drop n tail in
    let boundary = IsCharBoundary-from_drop tail n inside (subst IsUtf8 (sym same) utf8) in
    let most = measure-tail (take n tail) end (IsUtf8-take tail n after boundary) in
    let all = ap measure whole in
    omega (arith, most, all, wide)

-- a suffix from a character boundary on shows this
pub wide-end : (w at : ℕ) (word end : Text) → IsUtf8 word → IsCharBoundary word at → end ≡ drop at word → w + 1 < measure end → IsWideFrom w (length end) word
wide-end w at word end utf8 boundary back wide =
    wide-from w word (take at word) end (sym (take-append-drop at word) ∙ ap (λ t. take at word ++ t) (sym back)) (subst IsUtf8 (sym back) (IsUtf8-drop word at utf8 boundary)) wide

-- a bound of wide suffixes holds for the word without a prefix too
pub wide-after : (w bytes : ℕ) (word front rest : Text) → word ≡ front ++ rest → IsUtf8 front → IsWideFrom w bytes word → IsWideFrom w bytes rest
wide-after w bytes word a rest joins utf8 wide front tail splits before after long =
    wide (a ++ front) tail (joins ∙ ap (λ t. a ++ t) splits ∙ sym (append_assoc a front tail)) (IsUtf8-append a front utf8 before) after long

-- a bound of wide suffixes holds for the rest of a first element after a position in it
pub rest-wide : (text : Text) (first end : ℕ) → IsUtf8 text → IsCharBoundary text end → end < first → (w bytes : ℕ) → IsWideFrom w bytes (take first text) → IsWideFrom w bytes (take (first - end) (drop end text))
rest-wide text first end utf8 cut inside w bytes wide =
    let sum : first ≡ end + (first - end) = omega arith in
    let front : take first text ≡ take end text ++ take (first - end) (drop end text) = ap (λ n. take n text) sum ∙ take-add end (first - end) text in
    wide-after w bytes (take first text) (take end text) (take (first - end) (drop end text)) front (IsUtf8-take text end utf8 cut) wide

-- no suffix of a word has more bytes than the word
pub none-wider : (w : ℕ) (word : Text) → IsWideFrom w (length word + 1) word
none-wider w word front tail splits before after long =
    let lengths = ap length splits ∙ length-append front tail in
    absurd (omega (arith, lengths, long))

-- a word with at least that many bytes is wider than a line
pub known-wide : (w bytes : ℕ) (word : Text) → IsUtf8 word → IsWideFrom w bytes word → bytes ≤ length word → w < measure word
known-wide w bytes word utf8 wide known = wide [] word refl IsUtf8-nil utf8 known

-- the first element of a text is a prefix of it
pub first-is : (d : ℕ) (text first after : Text) → IsFirstElement d text first after → take (length first) text ≡ first
first-is d text first after is = ap (λ t. take (length first) t) (sym is.joined) ∙ take-append_seam first after

-- the measure of a word is its exact width
pub exact-columns : (w columns : ℕ) (word : Text) → columns ≡ measure word → AreColumnsUpTo w columns word
exact-columns w columns word exact = record { fits = λ _. exact; wider = λ wide. omega (arith, exact, wide) }
