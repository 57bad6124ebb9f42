-- A text measures at least as much as its suffix by itself, minus 1. A text is read from its end: a character takes
-- away at most 1 of the width after it, and only if the state allows it.
use Rattle.std.proofs.Common.{◌≡◌, ◌≤◌, ℕ, ◌+◌, ◌-◌, Bool, true, false, cond, not, ◌==◌, nat_le, ◌&&◌, List, [], ◌∷◌, ◌++◌, Option, Some, None, refl, sym, ap, ◌∙◌, subst, arith, add_assoc}
use Rattle.std.specs.Int.{is_in_range}
use Rattle.std.specs.Prelude.{IsUtf8, chars}
use Rattle.std.proofs.lemmas.Str.{chars-append}
use Rattle.unicode_width.specs.declared.kind.Kind.{Kind}
use Rattle.unicode_width.specs.declared.kind.Kind.TheVariants as kinds
use Rattle.unicode_width.specs.declared.state.After.{After}
use Rattle.unicode_width.specs.declared.state.After.TheVariants.{Nothing, LineFeed, EmojiModifier, RegionalIndicator, RegionalIndicators, Emoji, ZwjEmoji, KeycapZwjEmoji, IndicatorZwj, EvenIndicatorsZwj, OddIndicatorsZwj, TagEnd, TagDigit1, TagDigit2, TagDigit3, TagLetter1, TagLetter2, TagLetter3, TagLetter4, TagLetter5, TagLetter6, KiratE, KiratAi, Alef, Solidus, SolidusAlef, Lamed, ZwjLamed, Ya, ZwjYa, VowelZwjYa, Tifinagh, ZwjTifinagh, JoinerTifinagh, LisuTone, OrkhonI, ZwjOrkhonI, KhmerLetter}
use Rattle.unicode_width.specs.declared.state.State.{State}
use Rattle.unicode_width.specs.declared.state.Change.{Change}
use Rattle.unicode_width.specs.declared.state.Change.TheVariants.{Less, Same, One, Three}
use Rattle.unicode_width.specs.Kind.{kind, is_ligature_transparent, is_solidus_transparent, is_text_presentation_base}
use Rattle.unicode_width.specs.Width.{before, plain, single, of_kind, alone, before_alef, joins, Reading, added, joined_or, with_joiner, if_kept, is_joined_emoji, skips_marks, is_kept, is_solidus, is_striking, is_line_feed, is_quote, is_quote_selector, is_plain, past_selectors, in_context, past_emoji, step, read_before, str_width}
use Rattle.cluster_width.specs.ClusterSums.{Text, measure}

-- ---- no step takes away more than there is

-- the least width of the text in a state in which a step may take 1 away
abbrev credit : After → ℕ
credit KhmerLetter = 1
credit JoinerTifinagh = 1
credit IndicatorZwj = 1
credit OddIndicatorsZwj = 1
credit _ = 0

-- a function from a total to a reading adds to any total what it adds to t, and leaves a total that covers the credit
record Shifts (f : ℕ → Reading) (t : ℕ) : Type 0 where
  shifts : (k : ℕ) → f (k + t) ≡ (k + (f t).0, (f t).1)
  covers : credit (f t).1.after ≤ (f t).0

Shifts-cond : (b : Bool) (f g : ℕ → Reading) (t : ℕ) → Shifts f t → Shifts g t → Shifts (λ x. cond b (f x) (g x)) t
Shifts-cond true f g t p q = p
Shifts-cond false f g t p q = q

Shifts-add : (n : ℕ) (s : State) (t : ℕ) → credit s.after ≤ t + n → Shifts (λ x. (x + n, s)) t
Shifts-add n s t h = record { shifts = λ k. ap (λ m. (m, s)) (add_assoc k t n); covers = h }

Shifts-same : (s : State) (t : ℕ) → credit s.after ≤ t → Shifts (λ x. (x, s)) t
Shifts-same s t h = record { shifts = λ k. refl; covers = h }

single-credit : (cjk : Bool) (c : ℕ) → credit (single cjk c).1.after ≡ 0
single-credit cjk c = grind arith

of_kind-credit : (cjk : Bool) (c : ℕ) (k : Kind) → credit (of_kind cjk c k).1.after ≤ (of_kind cjk c k).0
of_kind-credit cjk c kinds.Zero = omega arith
of_kind-credit cjk c kinds.Narrow = omega arith
of_kind-credit cjk c kinds.Wide = omega arith
of_kind-credit cjk c kinds.Ambiguous = omega arith
of_kind-credit cjk c kinds.Alef = omega arith
of_kind-credit cjk c kinds.KhmerLetter = omega arith
of_kind-credit cjk c kinds.TifinaghConsonant = omega arith
of_kind-credit cjk c kinds.LisuTone = omega arith
of_kind-credit cjk c kinds.RegionalIndicator = omega arith
of_kind-credit cjk c kinds.EmojiModifier = omega arith
of_kind-credit cjk c kinds.Emoji = omega arith
of_kind-credit cjk c kinds.Single = omega (arith, single-credit cjk c)

Shifts-alone : (cjk : Bool) (c t : ℕ) → Shifts (λ x. added x (alone cjk c)) t
unfolding alone
Shifts-alone cjk c t = Shifts-add (alone cjk c).0 (alone cjk c).1 t (omega (arith, of_kind-credit cjk c (kind c)))

-- the credit that a join needs before it, and leaves after it
abbrev IsFair : After → Option (Change × After) → Type 0
IsFair after None = Unit {0}
IsFair after (Some (Less, next)) = (credit after ≡ 1) × (credit next ≡ 0)
IsFair after (Some (Same, next)) = credit next ≡ 0
IsFair after (Some (_, next)) = credit next ≤ 1

IsFair-alef : (a b c : Bool) → IsFair Alef (cond a (Some (Same, SolidusAlef)) (cond b (Some (Same, Nothing)) (cond c (Some (Same, Alef)) None)))
IsFair-alef true b c = refl
IsFair-alef false true c = refl
IsFair-alef false false true = refl
IsFair-alef false false false = tt

joins-fair : (cjk : Bool) (after : After) (c : ℕ) → IsFair after (joins cjk after c)
unfolding joins before_alef
joins-fair cjk Nothing c = grind arith
joins-fair cjk LineFeed c = grind arith
joins-fair cjk EmojiModifier c = grind arith
joins-fair cjk RegionalIndicator c = grind arith
joins-fair cjk RegionalIndicators c = grind arith
joins-fair cjk Emoji c = grind arith
joins-fair cjk ZwjEmoji c = grind arith
joins-fair cjk KeycapZwjEmoji c = grind arith
joins-fair cjk IndicatorZwj c = grind arith
joins-fair cjk EvenIndicatorsZwj c = grind arith
joins-fair cjk OddIndicatorsZwj c = grind arith
joins-fair cjk TagEnd c = grind arith
joins-fair cjk TagDigit1 c = grind arith
joins-fair cjk TagDigit2 c = grind arith
joins-fair cjk TagDigit3 c = grind arith
joins-fair cjk TagLetter1 c = grind arith
joins-fair cjk TagLetter2 c = grind arith
joins-fair cjk TagLetter3 c = grind arith
joins-fair cjk TagLetter4 c = grind arith
joins-fair cjk TagLetter5 c = grind arith
joins-fair cjk TagLetter6 c = grind arith
joins-fair cjk KiratE c = grind arith
joins-fair cjk KiratAi c = grind arith
joins-fair cjk Alef c = IsFair-alef _ _ _
joins-fair cjk Solidus c = grind arith
joins-fair cjk SolidusAlef c = grind arith
joins-fair cjk Lamed c = grind arith
joins-fair cjk ZwjLamed c = grind arith
joins-fair cjk Ya c = grind arith
joins-fair cjk ZwjYa c = grind arith
joins-fair cjk VowelZwjYa c = grind arith
joins-fair cjk Tifinagh c = grind arith
joins-fair cjk ZwjTifinagh c = grind arith
joins-fair cjk JoinerTifinagh c = grind arith
joins-fair cjk LisuTone c = grind arith
joins-fair cjk OrkhonI c = grind arith
joins-fair cjk ZwjOrkhonI c = grind arith
joins-fair cjk KhmerLetter c = grind arith

Shifts-joined : (after : After) (j : Option (Change × After)) (own : ℕ × State) (t : ℕ) → credit after ≤ t → IsFair after j → Shifts (λ x. added x own) t → Shifts (λ x. joined_or x j own) t
Shifts-joined after None own t h fair rest = rest
Shifts-joined after (Some (Less, next)) own t h fair rest =
    record { shifts = λ k. let e : k + t - 1 ≡ k + (t - 1) = omega (arith, fair.0) in ap (λ m. (m, before next)) e; covers = omega (arith, fair.1) }
Shifts-joined after (Some (Same, next)) own t h fair rest = Shifts-same (before next) t (omega arith)
Shifts-joined after (Some (One, next)) own t h fair rest = Shifts-add 1 (before next) t (omega arith)
Shifts-joined after (Some (Three, next)) own t h fair rest = Shifts-add 3 (before next) t (omega arith)

credit-with_joiner : (after : After) → credit (with_joiner after) ≡ credit after
credit-with_joiner Nothing = refl
credit-with_joiner LineFeed = refl
credit-with_joiner EmojiModifier = refl
credit-with_joiner RegionalIndicator = refl
credit-with_joiner RegionalIndicators = refl
credit-with_joiner Emoji = refl
credit-with_joiner ZwjEmoji = refl
credit-with_joiner KeycapZwjEmoji = refl
credit-with_joiner IndicatorZwj = refl
credit-with_joiner EvenIndicatorsZwj = refl
credit-with_joiner OddIndicatorsZwj = refl
credit-with_joiner TagEnd = refl
credit-with_joiner TagDigit1 = refl
credit-with_joiner TagDigit2 = refl
credit-with_joiner TagDigit3 = refl
credit-with_joiner TagLetter1 = refl
credit-with_joiner TagLetter2 = refl
credit-with_joiner TagLetter3 = refl
credit-with_joiner TagLetter4 = refl
credit-with_joiner TagLetter5 = refl
credit-with_joiner TagLetter6 = refl
credit-with_joiner KiratE = refl
credit-with_joiner KiratAi = refl
credit-with_joiner Alef = refl
credit-with_joiner Solidus = refl
credit-with_joiner SolidusAlef = refl
credit-with_joiner Lamed = refl
credit-with_joiner ZwjLamed = refl
credit-with_joiner Ya = refl
credit-with_joiner ZwjYa = refl
credit-with_joiner VowelZwjYa = refl
credit-with_joiner Tifinagh = refl
credit-with_joiner ZwjTifinagh = refl
credit-with_joiner JoinerTifinagh = refl
credit-with_joiner LisuTone = refl
credit-with_joiner OrkhonI = refl
credit-with_joiner ZwjOrkhonI = refl
credit-with_joiner KhmerLetter = refl

credit-cond : (b : Bool) (s u : State) (t : ℕ) → credit s.after ≤ t → credit u.after ≤ t → credit (cond b s u).after ≤ t
credit-cond true s u t p q = p
credit-cond false s u t p q = q

credit-if_kept : (s : State) (t : ℕ) → credit s.after ≤ t → credit (if_kept s).after ≤ t
credit-if_kept s t h = credit-cond (is_kept s.after) s plain t h (omega arith)

Shifts-past_selectors : (cjk : Bool) (c : ℕ) (after : After) (t : ℕ) → credit after ≤ t → Shifts (λ x. past_selectors cjk c x after) t
unfolding past_selectors
Shifts-past_selectors cjk c after t h =
    Shifts-cond (skips_marks after && (c == 0x200D)) _ _ t (Shifts-same (before (with_joiner after)) t (omega (arith, credit-with_joiner after)))
    (Shifts-cond (skips_marks after && is_ligature_transparent c) _ _ t (Shifts-same (before after) t h)
    (Shifts-cond ((cjk && is_solidus after) && is_solidus_transparent c) _ _ t (Shifts-add (alone cjk c).0 (before Solidus) t (omega arith))
    (Shifts-joined after (joins cjk after c) (alone cjk c) t h (joins-fair cjk after c) (Shifts-alone cjk c t))))

Shifts-in_context : (cjk : Bool) (c : ℕ) (s : State) (t : ℕ) → credit s.after ≤ t → Shifts (λ x. in_context cjk c x s) t
unfolding in_context
Shifts-in_context cjk c s t h =
    let kept = credit-if_kept s t h in
    Shifts-cond (c == 0xFE0F) _ _ t (Shifts-same (record (cond (is_joined_emoji s.after) s (if_kept s)) { emoji = true }) t (credit-cond (is_joined_emoji s.after) s (if_kept s) t h kept))
    (Shifts-cond (is_quote_selector cjk c) _ _ t (Shifts-same (record (if_kept s) { quote = true }) t kept)
    (Shifts-cond (not cjk && (c == 0xFE0E)) _ _ t (Shifts-same (record (if_kept s) { text = true }) t kept)
    (Shifts-cond (s.text && is_text_presentation_base c) _ _ t (Shifts-add 1 plain t (omega arith))
    (Shifts-cond (s.quote && is_quote c) _ _ t (Shifts-add (cond cjk 1 2) plain t (omega arith)) (Shifts-past_selectors cjk c s.after t h)))))

Shifts-past_emoji : (cjk : Bool) (c : ℕ) (s : State) (t : ℕ) → credit s.after ≤ t → Shifts (λ x. past_emoji cjk c x s) t
unfolding past_emoji
Shifts-past_emoji cjk c s t h =
    Shifts-cond (((cjk && is_striking s.after) && not s.quote) && is_in_range 0x3C 0x3E c) _ _ t (Shifts-add 2 plain t (omega arith))
    (Shifts-cond (c == 0x0A) _ _ t (Shifts-add 1 (before LineFeed) t (omega arith))
    (Shifts-cond ((c == 0x0D) && is_line_feed s.after) _ _ t (Shifts-same plain t (omega arith))
    (Shifts-cond (nat_le c 0xA0) _ _ t (Shifts-add 1 plain t (omega arith))
    (Shifts-cond (is_plain s) _ _ t (Shifts-alone cjk c t) (Shifts-in_context cjk c s t h)))))

Shifts-step : (cjk : Bool) (c : ℕ) (s : State) (t : ℕ) → credit s.after ≤ t → Shifts (λ x. step cjk c (x, s)) t
unfolding step
Shifts-step cjk c s t h =
    Shifts-cond (not s.emoji) _ _ t (Shifts-past_emoji cjk c s t h)
    (Shifts-cond _ _ _ t (Shifts-add (cond (is_joined_emoji s.after) 0 2) (before Emoji) t (omega arith))
    (Shifts-past_emoji cjk c (record (if_kept s) { emoji = false }) t (credit-if_kept s t h)))

-- a reading of more characters passes on what is added to a total that covers the credit
Shifts-read_before : (cjk : Bool) (cs : List ℕ) (s : State) (t : ℕ) → credit s.after ≤ t → Shifts (λ x. read_before cjk cs (x, s)) t
Shifts-read_before cjk [] s t h = Shifts-same s t h
Shifts-read_before cjk (c ∷ cs) s t h =
    let rest = Shifts-read_before cjk cs s t h in
    let r = read_before cjk cs (t, s) in
    let here = Shifts-step cjk c r.1 r.0 rest.covers in
    record { shifts = λ k. ap (step cjk c) (rest.shifts k) ∙ here.shifts k; covers = here.covers }

read_before-append : (cjk : Bool) (xs ys : List ℕ) (r : Reading) → read_before cjk (xs ++ ys) r ≡ read_before cjk xs (read_before cjk ys r)
read_before-append cjk [] ys r = refl
read_before-append cjk (x ∷ xs) ys r = ap (step cjk x) (read_before-append cjk xs ys r)

credit-le : (after : After) → credit after ≤ 1
credit-le KhmerLetter = omega arith
credit-le JoinerTifinagh = omega arith
credit-le IndicatorZwj = omega arith
credit-le OddIndicatorsZwj = omega arith
credit-le _ = omega arith

str_width-tail : (xs ys : List ℕ) → str_width false ys ≤ str_width false (xs ++ ys) + 1
unfolding str_width
str_width-tail xs ys =
    let r : Reading = read_before false ys (0, plain) in
    let covered : credit r.1.after ≤ r.0 = (Shifts-read_before false ys plain 0 (omega arith)).covers in
    let least : ℕ = credit r.1.after in
    let one : least ≤ 1 = credit-le r.1.after in
    let parts : r.0 - least + least ≡ r.0 = omega arith in
    let all : (read_before false (xs ++ ys) (0, plain)).0 ≡ (r.0 - least) + (read_before false xs (least, r.1)).0 =
    ap (λ x. x.0) (read_before-append false xs ys (0, plain) ∙ ap (λ n. read_before false xs (n, r.1)) (sym parts) ∙ (Shifts-read_before false xs r.1 least (omega arith)).shifts (r.0 - least)) in
    omega (arith, all, covered, one)

-- a text measures at least as much as its suffix by itself, minus 1
pub measure-tail : (front tail : Text) → IsUtf8 front → measure tail ≤ measure (front ++ tail) + 1
measure-tail front tail utf8 = subst (λ cs. measure tail ≤ str_width false cs + 1) (sym (chars-append front tail utf8)) (str_width-tail (chars front) (chars tail))
