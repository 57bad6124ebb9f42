-- Kinds of characters whose widths add up: those that join no other, and emoji by themselves.
use Rattle.std.proofs.Common.{◌≡◌, ◌≢◌, ◌<◌, ◌≤◌, ◌⊎◌, inl, inr, ℕ, ◌+◌, true, false, not, ◌&&◌, ◌||◌, List, [], ◌∷◌, nat_lt, nat_le, ◌==◌, Bool, zero, suc, slice_index_or, refl, sym, ap, ◌∙◌, subst, arith, sum_by, ⊎_elim}
use Rattle.std.specs.Int.{is_in_range}
use Rattle.std.specs.List.{list_all}
use Rattle.std.proofs.lemmas.Bool.{and_parts, cases_Bool, eqb-true, not-true, or_cases}
use Rattle.std.proofs.lemmas.Bool.Decides.{nat_tests}
use Rattle.std.proofs.lemmas.List.Sums.{sum_by-cons}
use Rattle.std.proofs.lemmas.Bool.{cases_lt, or_parts}
use Rattle.ucd_table.specs.Rows.{Range, in_ranges}
use Rattle.unicode_width.specs.declared.kind.Kind.{Kind}
use Rattle.unicode_width.specs.declared.kind.Kind.TheVariants as kinds
use Rattle.unicode_width.specs.declared.state.After.TheVariants as after
use Rattle.unicode_width.specs.declared.state.State.{State}
use Rattle.unicode_width.specs.Kind.{kind}
use Rattle.unicode_width.specs.Width.{Reading, added, alone, before, char_width, of_kind, past_emoji, plain, read_before, step, str_width}
use Rattle.unicode_width.proofs.Computing.{unicode_width}
use Rattle.unicode_width.proofs.Rules.{width_or_zero}
use Rattle.unicode_width.proofs.WidthLemmas.{step-before_emoji}
use Rattle.comfy_parts.proofs.KindRangeLemmas.{adds_up_kind, others_add_up}
use Rattle.comfy_parts.specs.Columns.{joining_characters, joins_no_other}

-- the widths of characters of this kind add up, and each is at most two terminal columns
pub record AddUp (kind : ℕ → Bool) : Type 0 where
  pub sums : (cs : List ℕ) → list_all kind cs ≡ true → str_width false cs ≡ sum_by (width_or_zero false) cs
  pub narrow : (c : ℕ) → kind c ≡ true → width_or_zero false c ≤ 2

-- ---- kinds

pub ascii-one : (c : ℕ) → is_in_range 0x20 0x7E c ≡ true → width_or_zero false c ≡ 1
unfolding char_width
ascii-one c printable = grind (arith, nat_tests, printable)

-- printable ASCII and U+00A0
abbrev is_low : ℕ → Bool
is_low c = is_in_range 0x20 0x7E c || (c == 0xA0)

no_break_space-one : width_or_zero false 0xA0 ≡ 1
unfolding unicode_width
no_break_space-one = refl

low-one : (c : ℕ) → is_low c ≡ true → width_or_zero false c ≡ 1
low-one c low =
    ⊎_elim (ascii-one c) (λ same. ap (width_or_zero false) (eqb-true c 0xA0 same) ∙ no_break_space-one) (or_cases (is_in_range 0x20 0x7E c) (c == 0xA0) low)

-- a character that joins no other is one of these, or is above U+00A0
low_or_high : (c : ℕ) → joins_no_other c ≡ true → (is_low c ≡ true) ⊎ ((nat_lt 0xA0 c && not (in_ranges joining_characters c)) ≡ true)
low_or_high c joins = by_cases (in_ranges joining_characters c) joins
  where
    by_cases : (joining : Bool) → (is_in_range 0x20 0x7E c || (nat_le 0xA0 c && not joining)) ≡ true → (is_low c ≡ true) ⊎ ((nat_lt 0xA0 c && not joining) ≡ true)
    by_cases joining h = ⊎_elim (λ low. inl low) (λ other. inr (grind (arith, nat_tests, h, other))) (cases_Bool (is_low c))

pub high-alone : (c : ℕ) → nat_lt 0xA0 c ≡ true → width_or_zero false c ≡ (alone false c).0
unfolding char_width
high-alone c high = grind (arith, nat_tests, high)

-- ---- emoji by themselves

-- the state of the width rules after such a character
abbrev IsCalm : State → Type 0
IsCalm s = (s ≡ plain) ⊎ (s ≡ before after.Emoji)

of_kind-summed : (c : ℕ) (k : Kind) → adds_up_kind k ≡ true → IsCalm (of_kind false c k).1 × ((of_kind false c k).0 ≤ 2)
of_kind-summed c kinds.Zero h = (inl refl, omega arith)
of_kind-summed c kinds.Narrow h = (inl refl, omega arith)
of_kind-summed c kinds.Wide h = (inl refl, omega arith)
of_kind-summed c kinds.Ambiguous h = (inl refl, omega arith)
of_kind-summed c kinds.Emoji h = (inr refl, omega arith)
of_kind-summed c kinds.Alef h = absurd (cc h)
of_kind-summed c kinds.KhmerLetter h = absurd (cc h)
of_kind-summed c kinds.TifinaghConsonant h = absurd (cc h)
of_kind-summed c kinds.LisuTone h = absurd (cc h)
of_kind-summed c kinds.RegionalIndicator h = absurd (cc h)
of_kind-summed c kinds.EmojiModifier h = absurd (cc h)
of_kind-summed c kinds.Single h = absurd (cc h)

low-plain : (c total : ℕ) → is_low c ≡ true → step false c (total, plain) ≡ (total + 1, plain)
unfolding step past_emoji
low-plain c total h = grind (arith, nat_tests, h)

low-emoji : (c total : ℕ) → is_low c ≡ true → step false c (total, before after.Emoji) ≡ (total + 1, plain)
unfolding step past_emoji
low-emoji c total h = grind (arith, nat_tests, h)

high-plain : (c total : ℕ) → nat_lt 0xA0 c ≡ true → step false c (total, plain) ≡ added total (alone false c)
unfolding step past_emoji
high-plain c total h = grind (arith, nat_tests, h)

record IsOther (c : ℕ) : Type 0 where
  high : nat_lt 0xA0 c ≡ true
  no_joiner : c ≢ 0x200D
  no_selector : (c < 0xFE00) ⊎ (0xFE0F < c)
  own : IsCalm (alone false c).1 × ((alone false c).0 ≤ 2)

-- a number that is in none of some ranges isn't in the range at position k
outside_range : (rs : List Range) (k c : ℕ) → in_ranges rs c ≡ false → (c < (slice_index_or rs k (1, 0)).0) ⊎ ((slice_index_or rs k (1, 0)).1 < c)
unfolding in_ranges
outside_range [] k c none = cases_lt c 1
outside_range (r ∷ rs) zero c none =
    let here : (nat_le r.0 c && nat_le c r.1) ≡ false = (or_parts (nat_le r.0 c && nat_le c r.1) (in_ranges rs c) none).0 in
    ⊎_elim inl (λ above. inr (grind (arith, nat_tests, above, here))) (cases_lt c r.0)
outside_range (r ∷ rs) (suc k) c none = outside_range rs k c (or_parts (nat_le r.0 c && nat_le c r.1) (in_ranges rs c) none).1

other_parts : (c : ℕ) → (nat_lt 0xA0 c && not (in_ranges joining_characters c)) ≡ true → IsOther c
unfolding alone
other_parts c h =
    let both = and_parts (nat_lt 0xA0 c) (not (in_ranges joining_characters c)) h in
    let none : in_ranges joining_characters c ≡ false = not-true _ both.1 in
    record {
      high = both.0;
      no_joiner = λ same. ⊎_elim (λ below. absurd (omega (arith, below, same))) (λ above. absurd (omega (arith, above, same))) (outside_range joining_characters 12 c none);
      no_selector = outside_range joining_characters 16 c none;
      own = of_kind-summed c (kind c) (ap (λ b. b || adds_up_kind (kind c)) (sym none) ∙ others_add_up c);
    }

-- one more character adds its width
pub step-summed : (c total : ℕ) (s : State) → IsCalm s → joins_no_other c ≡ true → (step false c (total, s)).0 ≡ total + width_or_zero false c
step-summed c total s calm h =
    ⊎_elim
    (λ low. by_low low (low-one c low) calm)
    (λ high. by_high (other_parts c high) calm)
    (low_or_high c h)
  where
    by_low : is_low c ≡ true → width_or_zero false c ≡ 1 → IsCalm s → (step false c (total, s)).0 ≡ total + width_or_zero false c
    by_low low one (inl same) = ap (λ u. (step false c (total, u)).0) same ∙ ap (λ (r : Reading). r.0) (low-plain c total low) ∙ ap (λ n. total + n) (sym one)
    by_low low one (inr same) = ap (λ u. (step false c (total, u)).0) same ∙ ap (λ (r : Reading). r.0) (low-emoji c total low) ∙ ap (λ n. total + n) (sym one)

    by_high : IsOther c → IsCalm s → (step false c (total, s)).0 ≡ total + width_or_zero false c
    by_high is (inl same) = ap (λ u. (step false c (total, u)).0) same ∙ ap (λ (r : Reading). r.0) (high-plain c total is.high) ∙ ap (λ n. total + n) (sym (high-alone c is.high))
    by_high is (inr same) = ap (λ u. (step false c (total, u)).0) same ∙ ap (λ (r : Reading). r.0) (step-before_emoji false c total (grind (arith, nat_tests, is.high)) is.no_joiner is.no_selector) ∙ ap (λ n. total + n) (sym (high-alone c is.high))

-- one more character leaves such a state
pub calm-summed : (c total : ℕ) (s : State) → IsCalm s → joins_no_other c ≡ true → IsCalm (step false c (total, s)).1
calm-summed c total s calm h =
    ⊎_elim (λ low. by_low low calm) (λ high. by_high (other_parts c high) calm) (low_or_high c h)
  where
    by_low : is_low c ≡ true → IsCalm s → IsCalm (step false c (total, s)).1
    by_low low (inl same) = inl (ap (λ u. (step false c (total, u)).1) same ∙ ap (λ (r : Reading). r.1) (low-plain c total low))
    by_low low (inr same) = inl (ap (λ u. (step false c (total, u)).1) same ∙ ap (λ (r : Reading). r.1) (low-emoji c total low))

    by_high : IsOther c → IsCalm s → IsCalm (step false c (total, s)).1
    by_high is (inl same) = subst IsCalm (sym (ap (λ u. (step false c (total, u)).1) same ∙ ap (λ (r : Reading). r.1) (high-plain c total is.high))) is.own.0
    by_high is (inr same) = subst IsCalm (sym (ap (λ u. (step false c (total, u)).1) same ∙ ap (λ (r : Reading). r.1) (step-before_emoji false c total (grind (arith, nat_tests, is.high)) is.no_joiner is.no_selector))) is.own.0

read-summed : (cs : List ℕ) → list_all joins_no_other cs ≡ true → ((read_before false cs (0, plain)).0 ≡ sum_by (width_or_zero false) cs) × IsCalm (read_before false cs (0, plain)).1
read-summed [] h = (refl, inl refl)
read-summed (c ∷ cs) h =
    let parts = and_parts (joins_no_other c) (list_all joins_no_other cs) h in
    let rest = read-summed cs parts.1 in
    let r : Reading = read_before false cs (0, plain) in
    let sum = sum_by-cons (width_or_zero false) c cs in
    let one = step-summed c r.0 r.1 rest.1 parts.0 in
    let same = rest.0 in
    (omega (arith, sum, one, same), calm-summed c r.0 r.1 rest.1 parts.0)

summed-narrow : (c : ℕ) → joins_no_other c ≡ true → width_or_zero false c ≤ 2
summed-narrow c h =
    ⊎_elim (λ low. let one = low-one c low in omega (arith, one))
    (λ high. let is = other_parts c high in let own = high-alone c is.high in let most = is.own.1 in omega (arith, own, most))
    (low_or_high c h)

pub summed_add_up : AddUp joins_no_other
unfolding str_width
summed_add_up = record { sums = λ cs each. (read-summed cs each).0; narrow = summed-narrow }
