-- Lines that give back fields of a Markdown table, and lines that don't.
use Rattle.std.proofs.Common.{◌≡◌, ℕ, [], ◌∷◌, arith, codes, refl}
use Rattle.std.specs.Str.{chars}
use lib.Utf8.{encode}
use Rattle.csv_promises.specs.MarkdownTable.{HasFields}

-- two fields, and one with a bar and a backslash
two_fields : HasFields (codes "a" ∷ codes "b c" ∷ []) (codes "| a | b c |")
unfolding chars encode
two_fields = refl

bar_in_a_field : HasFields (codes "a|b" ∷ codes "\\" ∷ []) (codes "| a\\|b | \\\\ |")
unfolding chars encode
bar_in_a_field = refl

line_break_in_a_field : HasFields (codes "a\nb" ∷ []) (codes "| a<br>b |")
unfolding chars encode
line_break_in_a_field = refl

-- a lost field, a field that is cut in two, two exchanged fields, and another letter
-- false: csv_promises::markdown_output
lost_field : ¬ (HasFields (codes "a" ∷ codes "b" ∷ []) (codes "| a |"))
unfolding chars encode
lost_field is = cc is

cut_field : ¬ (HasFields (codes "a|b" ∷ []) (codes "| a|b |"))
unfolding chars encode
cut_field is = cc is

exchanged_fields : ¬ (HasFields (codes "a" ∷ codes "b" ∷ []) (codes "| b | a |"))
unfolding chars encode
exchanged_fields is = let letter : ◌≡◌ {A = ℕ} 0x62 0x61 = cc is in absurd (omega (arith, letter))

gained_space : ¬ (HasFields (codes "ab" ∷ []) (codes "| a b |"))
unfolding chars encode
gained_space is = let letter : ◌≡◌ {A = ℕ} 0x20 0x62 = cc is in absurd (omega (arith, letter))
