-- The characters of all presets add one terminal column between any texts.
use Rattle.std.proofs.Common.{◌≡◌, ℕ, ◌+◌, ◌-◌, ◌≤◌, ◌==◌, ◌&&◌, ◌||◌, nat_le, Bool, true, false, cond, not, None, refl, sym, ap, ap₂, ◌∙◌, subst, arith}
use Rattle.std.specs.Int.{is_in_range}
use Rattle.std.proofs.lemmas.Bool.{and_parts, cond_both, not-true}
use Rattle.std.proofs.lemmas.Bool.Decides.{nat_tests}
use Rattle.ucd_table.proofs.TrieCheck.{all_below, all_below-at}
use Rattle.unicode_width.specs.declared.kind.Kind.{Kind}
use Rattle.unicode_width.specs.declared.kind.Kind.TheVariants as kinds
use Rattle.unicode_width.specs.declared.state.After.{After}
use Rattle.unicode_width.specs.declared.state.After.TheVariants.{Nothing, LineFeed, EmojiModifier, RegionalIndicator, RegionalIndicators, Emoji, ZwjEmoji, KeycapZwjEmoji, IndicatorZwj, EvenIndicatorsZwj, OddIndicatorsZwj, TagEnd, TagDigit1, TagDigit2, TagDigit3, TagLetter1, TagLetter2, TagLetter3, TagLetter4, TagLetter5, TagLetter6, KiratE, KiratAi, Alef, Solidus, SolidusAlef, Lamed, ZwjLamed, Ya, ZwjYa, VowelZwjYa, Tifinagh, ZwjTifinagh, JoinerTifinagh, LisuTone, OrkhonI, ZwjOrkhonI, KhmerLetter}
use Rattle.unicode_width.specs.declared.state.State.{State}
use Rattle.unicode_width.specs.Kind.{kind, is_ligature_transparent, is_text_presentation_base}
use Rattle.unicode_width.specs.Width.{is_emoji_modifier_base, is_emoji_variation_base, alone, before, before_alef, if_kept, in_context, is_emoji, is_joined_emoji, is_lam, is_plain, is_quote, joined_or, joins, of_kind, past_emoji, past_selectors, plain, skips_marks, step, with_joiner}
use Rattle.unicode_width.proofs.Computing.{unicode_width}
use Rattle.cluster_width.proofs.SpaceMeasureLemmas.{Seals}

-- ---- printable ASCII

-- `#`, `*` and the digits
abbrev is_keycap : ℕ → Bool
is_keycap c = (c == 0x23) || ((c == 0x2A) || is_in_range 0x30 0x39 c)

-- no other printable ASCII character can become an emoji
low_are_no_bases : all_below (λ c. is_keycap c || not (is_emoji_variation_base c)) 0x7F ≡ true
unfolding unicode_width all_below
low_are_no_bases = refl

not_base : (c : ℕ) → is_in_range 0x20 0x7E c ≡ true → is_keycap c ≡ false → is_emoji_variation_base c ≡ false
not_base c printable plain =
    not-true _ (ap (λ b. b || not (is_emoji_variation_base c)) (sym plain) ∙ all_below-at (λ k. is_keycap k || not (is_emoji_variation_base k)) 0x7F c low_are_no_bases (grind (arith, nat_tests, printable)))

-- a character that isn't a variation base adds one terminal column before any text, if it does so under the rules after
-- those for emoji
flag_seals : (c n : ℕ) (s : State) → is_emoji_variation_base c ≡ false → ((t : State) → past_emoji false c n t ≡ (n + 1, plain)) → step false c (n, s) ≡ (n + 1, plain)
unfolding step
flag_seals c n s base past = by_flag s.emoji s
  where
    by_flag : (b : Bool) (s : State) → cond (not b) (past_emoji false c n s) (cond (is_emoji_variation_base c) (n + cond (is_joined_emoji s.after) 0 2, before Emoji) (past_emoji false c n (record (if_kept s) { emoji = false }))) ≡ (n + 1, plain)
    by_flag false s = past s
    by_flag true s = rw base (past (record (if_kept s) { emoji = false }))

pub low_seals : (c : ℕ) → is_in_range 0x20 0x7E c ≡ true → is_keycap c ≡ false → Seals c
unfolding past_emoji
low_seals c printable other n s = flag_seals c n s (not_base c printable other) (λ t. grind (arith, nat_tests, printable))

-- ---- box and block characters

-- the character is one terminal column wide, and joins no other
abbrev pub is_narrow_kind : Kind → Bool
is_narrow_kind kinds.Narrow = true
is_narrow_kind kinds.Ambiguous = true
is_narrow_kind _ = false

-- no rule names the character: the numbers in the rules are lower or higher, except one
abbrev is_lone : ℕ → Bool
is_lone c =
    (is_in_range 0x2026 0x259F c && not (c == 0x20E3))
    && (is_narrow_kind (kind c) && (not (is_emoji_variation_base c) && (not (is_ligature_transparent c) && (not (is_lam c) && not (is_emoji_modifier_base c)))))

-- no rule names a box or block character, U+2500 to U+259F
boxes_are_lone : all_below (λ k. is_lone (0x2500 + k)) 160 ≡ true
unfolding unicode_width all_below
boxes_are_lone = refl

-- the properties of such a character
record IsLone (c : ℕ) : Type 0 where
  low : 0x2026 ≤ c
  high : c ≤ 0x259F
  not_keycap : (c == 0x20E3) ≡ false
  alone : alone false c ≡ (1, plain)
  not_emoji : is_emoji (kind c) ≡ false
  not_variation_base : is_emoji_variation_base c ≡ false
  not_transparent : is_ligature_transparent c ≡ false
  not_lam : is_lam c ≡ false
  not_modifier_base : is_emoji_modifier_base c ≡ false

pub of_narrow : (c : ℕ) (k : Kind) → is_narrow_kind k ≡ true → (of_kind false c k ≡ (1, plain)) × (is_emoji k ≡ false)
of_narrow c kinds.Zero h = absurd (cc h)
of_narrow c kinds.Narrow h = (refl, refl)
of_narrow c kinds.Wide h = absurd (cc h)
of_narrow c kinds.Ambiguous h = (refl, refl)
of_narrow c kinds.Alef h = absurd (cc h)
of_narrow c kinds.KhmerLetter h = absurd (cc h)
of_narrow c kinds.TifinaghConsonant h = absurd (cc h)
of_narrow c kinds.LisuTone h = absurd (cc h)
of_narrow c kinds.RegionalIndicator h = absurd (cc h)
of_narrow c kinds.EmojiModifier h = absurd (cc h)
of_narrow c kinds.Emoji h = absurd (cc h)
of_narrow c kinds.Single h = absurd (cc h)

lone_parts : (c : ℕ) → is_lone c ≡ true → IsLone c
unfolding alone
lone_parts c test =
    let both = and_parts _ _ test in
    let apart = and_parts (is_in_range 0x2026 0x259F c) (not (c == 0x20E3)) both.0 in
    let first = and_parts _ _ both.1 in
    let second = and_parts _ _ first.1 in
    let third = and_parts _ _ second.1 in
    let fourth = and_parts _ _ third.1 in
    let own = of_narrow c (kind c) first.0 in
    record {
      low = grind (arith, nat_tests, apart.0);
      high = grind (arith, nat_tests, apart.0);
      not_keycap = not-true _ apart.1;
      alone = own.0;
      not_emoji = own.1;
      not_variation_base = not-true _ second.0;
      not_transparent = not-true _ third.0;
      not_lam = not-true _ fourth.0;
      not_modifier_base = not-true _ fourth.1;
    }

-- such a character isn't joined to the text after it
joins_none : (c : ℕ) → 0x2026 ≤ c → c ≤ 0x259F → (c == 0x20E3) ≡ false → IsLone c → (after : After) → joins false after c ≡ None
unfolding joins before_alef
joins_none c low high keycap _ Nothing = refl
joins_none c low high keycap _ LineFeed = refl
joins_none c low high keycap lone EmojiModifier = let m = lone.not_modifier_base in grind (arith, nat_tests, m)
joins_none c low high keycap _ RegionalIndicator = grind (arith, nat_tests)
joins_none c low high keycap _ RegionalIndicators = grind (arith, nat_tests)
joins_none c low high keycap _ Emoji = grind (arith, nat_tests)
joins_none c low high keycap lone ZwjEmoji = let e = lone.not_emoji in grind (arith, nat_tests, e)
joins_none c low high keycap _ KeycapZwjEmoji = refl
joins_none c low high keycap _ IndicatorZwj = grind (arith, nat_tests)
joins_none c low high keycap _ EvenIndicatorsZwj = grind (arith, nat_tests)
joins_none c low high keycap _ OddIndicatorsZwj = grind (arith, nat_tests)
joins_none c low high keycap _ TagEnd = grind (arith, nat_tests)
joins_none c low high keycap _ TagDigit1 = grind (arith, nat_tests)
joins_none c low high keycap _ TagDigit2 = grind (arith, nat_tests)
joins_none c low high keycap _ TagDigit3 = grind (arith, nat_tests)
joins_none c low high keycap _ TagLetter1 = grind (arith, nat_tests)
joins_none c low high keycap _ TagLetter2 = grind (arith, nat_tests)
joins_none c low high keycap _ TagLetter3 = grind (arith, nat_tests)
joins_none c low high keycap _ TagLetter4 = grind (arith, nat_tests)
joins_none c low high keycap _ TagLetter5 = grind (arith, nat_tests)
joins_none c low high keycap _ TagLetter6 = grind (arith, nat_tests)
joins_none c low high keycap _ KiratE = grind (arith, nat_tests)
joins_none c low high keycap _ KiratAi = grind (arith, nat_tests)
joins_none c low high keycap lone Alef = let l = lone.not_lam in let w = ap (λ (r : ℕ × State). r.0 == 0) lone.alone in rw (l, w) refl
joins_none c low high keycap _ Solidus = refl
joins_none c low high keycap _ SolidusAlef = refl
joins_none c low high keycap _ Lamed = refl
joins_none c low high keycap _ ZwjLamed = grind (arith, nat_tests)
joins_none c low high keycap _ Ya = refl
joins_none c low high keycap _ ZwjYa = grind (arith, nat_tests)
joins_none c low high keycap _ VowelZwjYa = grind (arith, nat_tests)
joins_none c low high keycap _ Tifinagh = grind (arith, nat_tests)
joins_none c low high keycap _ ZwjTifinagh = grind (arith, nat_tests)
joins_none c low high keycap _ JoinerTifinagh = grind (arith, nat_tests)
joins_none c low high keycap _ LisuTone = grind (arith, nat_tests)
joins_none c low high keycap _ OrkhonI = refl
joins_none c low high keycap _ ZwjOrkhonI = grind (arith, nat_tests)
joins_none c low high keycap _ KhmerLetter = grind (arith, nat_tests)

past_selectors-lone : (c n : ℕ) (after : After) → IsLone c → past_selectors false c n after ≡ (n + 1, plain)
unfolding past_selectors
past_selectors-lone c n after lone =
    let joiner : (c == 0x200D) ≡ false = grind (arith, nat_tests) in
    by_skip (skips_marks after) (c == 0x200D) (is_ligature_transparent c) joiner lone.not_transparent
    ∙ ap₂ (λ j (own : ℕ × State). joined_or n j own) (joins_none c lone.low lone.high lone.not_keycap lone after) lone.alone
  where
    by_skip : (skips joiner transparent : Bool) → joiner ≡ false → transparent ≡ false
        → cond (skips && joiner) (n, before (with_joiner after)) (cond (skips && transparent) (n, before after) (joined_or n (joins false after c) (alone false c))) ≡ joined_or n (joins false after c) (alone false c)
    by_skip true joiner transparent p q = rw (p, q) refl
    by_skip false joiner transparent p q = refl

in_context-lone : (c n : ℕ) (s : State) → IsLone c → in_context false c n s ≡ (n + 1, plain)
unfolding in_context
in_context-lone c n s lone =
    let one : (c == 0xFE0F) ≡ false = grind (arith, nat_tests) in
    let two : (c == 0xFE01) ≡ false = grind (arith, nat_tests) in
    let three : (c == 0xFE0E) ≡ false = grind (arith, nat_tests) in
    let quote : is_quote c ≡ false = grind (arith, nat_tests) in
    rw (one, two, three) (by_text (s.text && is_text_presentation_base c) (by_quote s.quote (is_quote c) quote))
  where
    by_quote : (b quote : Bool) → quote ≡ false → cond (b && quote) (n + 2, plain) (past_selectors false c n s.after) ≡ (n + 1, plain)
    by_quote true quote none = rw none (past_selectors-lone c n s.after lone)
    by_quote false quote none = past_selectors-lone c n s.after lone

    by_text : {r : ℕ × State} (b : Bool) → r ≡ (n + 1, plain) → cond b (n + 1, plain) r ≡ (n + 1, plain)
    by_text true rest = refl
    by_text false rest = rest

past_emoji-lone : (c n : ℕ) (s : State) → IsLone c → past_emoji false c n s ≡ (n + 1, plain)
unfolding past_emoji
past_emoji-lone c n s lone =
    let feed : (c == 0x0A) ≡ false = grind (arith, nat_tests) in
    let return : (c == 0x0D) ≡ false = grind (arith, nat_tests) in
    let high : nat_le c 0xA0 ≡ false = grind (arith, nat_tests) in
    rw (feed, return, high)
    (cond_both (is_plain s) _ _ (λ next. next ≡ (n + 1, plain)) (λ _. ap (λ (own : ℕ × State). (n + own.0, own.1)) lone.alone) (λ _. in_context-lone c n s lone))

-- each such character adds one terminal column
lone_seals : (c : ℕ) → IsLone c → Seals c
lone_seals c lone n s = flag_seals c n s lone.not_variation_base (λ t. past_emoji-lone c n t lone)

-- each box or block character adds one terminal column
pub box_seals : (c : ℕ) → is_in_range 0x2500 0x259F c ≡ true → Seals c
box_seals c box = lone_seals c lone
  where
    lone : IsLone c
    lone =
        let here : 0x2500 + (c - 0x2500) ≡ c = grind (arith, nat_tests, box) in
        lone_parts c (subst (λ x. is_lone x ≡ true) here (all_below-at (λ k. is_lone (0x2500 + k)) 160 (c - 0x2500) boxes_are_lone (grind (arith, nat_tests, box))))

-- no rule names `…`
ellipsis_is_lone : is_lone 0x2026 ≡ true
unfolding unicode_width
ellipsis_is_lone = refl

pub ellipsis_seals : Seals 0x2026
ellipsis_seals = lone_seals 0x2026 (lone_parts 0x2026 ellipsis_is_lone)
