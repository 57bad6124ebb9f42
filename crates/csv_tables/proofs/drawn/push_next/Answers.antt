use Rattle.std.proofs.Common.{◌≡◌, ◌+◌, ◌++◌, ◌==◌, ℕ, Bool, List, ap, ap₂, append-nil, append_assoc, arith, drop, false, length, refl, string_bytes, sym, take, true, ◌∙◌, rules}
use Rattle.std.proofs.lemmas.Bool.Decides.{nat_tests}
use Rattle.std.proofs.lemmas.List.{length-drop}
use Rattle.comfy_parts.specs.Text.{Text}
use Rattle.csv_tables.proofs.PieceLemmas.{all_taken, many_taken, next_piece}
use Rattle.csv_tables.specs.Contents.{drawn_next}
use Rattle.csv_tables.proofs.drawn.push_next.Goals as goal

pub returns-then-is_last-clause-text : goal.returns-then-is_last-clause-text
returns-then-is_last-clause-text c =
    let own = c.args.left in
    let left : List (List Text) = drop own.place own.arranged.contents.rows.selected.rows in
    let rows : c.rows_after-rows.result ≡ left = search rules in
    let next : c.first_rows-next.result ≡ take 256 left = search rules in
    let count : length (take 256 left) ≡ length left = search rules in
    let all : take 256 left ≡ left = all_taken 256 left count in
    let last : (c.len-count.result == c.len.result) ≡ true = grind (arith, nat_tests, c.if-is_last.true) in
    let drawn : Bool → List (List Text) → Text = λ b rs. drawn_next own.arranged.contents.rows own.arranged.contents.table own.arranged.infos own.place own.is_first b rs in
    let pushed : string_bytes c.push_records.new.text ≡ string_bytes c.args.text.now ++ drawn true left = c.in_ok-push_records.ensures ∙ ap₂ (λ (b : Bool) (rs : List (List Text)). string_bytes c.args.text.now ++ drawn b rs) last (next ∙ all) in
    let note : string_bytes c.push_str.new.self ≡ string_bytes c.push_records.new.text ++ string_bytes own.note = search rules in
    sym (append-nil (string_bytes c.push_str.new.self) ∙ note ∙ ap (λ (t : Text). t ++ string_bytes own.note) pushed ∙ append_assoc (string_bytes c.args.text.now) (drawn true left) (string_bytes own.note))

pub returns-clause-text : goal.returns-clause-text
returns-clause-text c =
    let own = c.args.left in
    let all : List (List Text) = own.arranged.contents.rows.selected.rows in
    let left : List (List Text) = drop own.place all in
    let next : c.first_rows-next.result ≡ take 256 left = search rules in
    let rows : c.rows_after-rows.result ≡ left = search rules in
    let count : c.len-count.result ≡ length (take 256 left) = c.len-count.ensures ∙ ap length next in
    let whole : c.len.result ≡ length left = c.len.ensures ∙ ap length rows in
    let more : (c.len-count.result == c.len.result) ≡ false = grind (arith, nat_tests, c.if-is_last.false) in
    let drawn : Bool → List (List Text) → Text = λ b rs. drawn_next own.arranged.contents.rows own.arranged.contents.table own.arranged.infos own.place own.is_first b rs in
    let had = string_bytes c.args.text.now in
    let after = drawn_next own.arranged.contents.rows own.arranged.contents.table own.arranged.infos (own.place + length (take 256 left)) false true (drop (own.place + length (take 256 left)) all) in
    let pushed : string_bytes c.push_records.new.text ≡ had ++ drawn false (take 256 left) = c.in_ok-push_records.ensures ∙ ap₂ (λ (b : Bool) (rs : List (List Text)). had ++ drawn b rs) more next in
    let parts : drawn true left ≡ drawn false (take 256 left) ++ after =
    next_piece own.arranged.contents.rows own.arranged.contents.table own.arranged.infos own.place 256 own.is_first all (omega arith) (λ same. c.if-is_last.false (count ∙ same ∙ sym whole)) in
    ap (λ (t : Text). had ++ (t ++ string_bytes own.note)) parts
    ∙ ap (λ (t : Text). had ++ t) (append_assoc (drawn false (take 256 left)) after (string_bytes own.note))
    ∙ sym (append_assoc had (drawn false (take 256 left)) (after ++ string_bytes own.note))
    ∙ ap (λ (t : Text). t ++ (after ++ string_bytes own.note)) (sym pushed)
    ∙ ap (λ (n : ℕ). string_bytes c.push_records.new.text ++ (drawn_next own.arranged.contents.rows own.arranged.contents.table own.arranged.infos (own.place + n) false true (drop (own.place + n) all) ++ string_bytes own.note)) (sym count)

pub returns-clause-place : goal.returns-clause-place
returns-clause-place c =
    let own = c.args.left in
    let all : List (List Text) = own.arranged.contents.rows.selected.rows in
    let left : List (List Text) = drop own.place all in
    let next : c.first_rows-next.result ≡ take 256 left = search rules in
    let rows : c.rows_after-rows.result ≡ left = search rules in
    let count : c.len-count.result ≡ length (take 256 left) = c.len-count.ensures ∙ ap length next in
    let whole : c.len.result ≡ length left = c.len.ensures ∙ ap length rows in
    let taken = many_taken 256 left (λ same. c.if-is_last.false (count ∙ same ∙ sym whole)) in
    let long = length-drop own.place all in
    let requires = c.requires in
    (omega (arith, count, taken.0), omega (arith, count, taken, long, requires), refl)
