use Rattle.std.proofs.Common.{◌≡◌, ◌∙◌, Bool, List, ap, ap₂, false, nat_le, sym, ℕ}
use Rattle.std.specs.Prelude.{if◌then◌else◌}
use Rattle.comfy_table.specs.TableValue.{TableValue}
use Rattle.csv_tables.specs.Limits.{bounded_width}
use Rattle.csv_tables.specs.NoWrap.{Wanted, by_columns, min_width, with_words}
use Rattle.csv_tables.specs.declared.needs.Words.TheVariants.{OfFields, OfNames}
use Rattle.csv_tables.proofs.nowrap.most_contents.Goals as goal

-- the words that are kept whole, by three tests
abbrev by_tests : Wanted → Bool → Bool → Bool → Wanted
by_tests wanted all fields names =
    if all then wanted else if fields then with_words OfFields wanted else if names then with_words OfNames wanted else wanted

pub returns-then-fits : goal.returns-then-fits
returns-then-fits c words is =
    let limits = c.args.limits.now in
    let width = c.args.width in
    let table : TableValue = c.args.contents.now.table in
    let wanted : Wanted = record { nowrap = c.args.nowrap.now; words = words } in
    let kept_by : Wanted → List ℕ = λ u. by_columns (min_width u table) table in
    let passes : ℕ → Wanted → Bool = λ level u. nat_le (bounded_width limits level u table) width in
    let all : c.fits.result ≡ passes width wanted = c.fits.ensures wanted (c.as_slice.ensures.value ∙ is) in
    is ∙ sym (ap (λ (a : Bool). kept_by (by_tests wanted a (passes 8 (with_words OfFields wanted)) (passes 8 (with_words OfNames wanted)))) (sym all ∙ c.if-fits.true))

pub returns-then-fits-2 : goal.returns-then-fits-2
returns-then-fits-2 c words is =
    let limits = c.args.limits.now in
    let width = c.args.width in
    let table : TableValue = c.args.contents.now.table in
    let wanted : Wanted = record { nowrap = c.args.nowrap.now; words = words } in
    let kept_by : Wanted → List ℕ = λ u. by_columns (min_width u table) table in
    let passes : ℕ → Wanted → Bool = λ level u. nat_le (bounded_width limits level u table) width in
    let all : c.fits.result ≡ passes width wanted = c.fits.ensures wanted (c.as_slice.ensures.value ∙ is) in
    let fields : c.fits-2.result ≡ passes 8 (with_words OfFields wanted) = c.fits-2.ensures (with_words OfFields wanted) (c.as_slice-2.ensures.value ∙ c.in_ok-fields.ensures) in
    c.in_ok-fields.ensures ∙ sym (ap₂ (λ (a b : Bool). kept_by (by_tests wanted a b (passes 8 (with_words OfNames wanted)))) (sym all ∙ c.if-fits.false) (sym fields ∙ c.if-fits-2.true))

pub returns-then-fits-3 : goal.returns-then-fits-3
returns-then-fits-3 c words is =
    let limits = c.args.limits.now in
    let width = c.args.width in
    let table : TableValue = c.args.contents.now.table in
    let wanted : Wanted = record { nowrap = c.args.nowrap.now; words = words } in
    let kept_by : Wanted → List ℕ = λ u. by_columns (min_width u table) table in
    let passes : ℕ → Wanted → Bool = λ level u. nat_le (bounded_width limits level u table) width in
    let all : c.fits.result ≡ passes width wanted = c.fits.ensures wanted (c.as_slice.ensures.value ∙ is) in
    let fields : c.fits-2.result ≡ passes 8 (with_words OfFields wanted) = c.fits-2.ensures (with_words OfFields wanted) (c.as_slice-2.ensures.value ∙ c.in_ok-fields.ensures) in
    let names : c.fits-3.result ≡ passes 8 (with_words OfNames wanted) = c.fits-3.ensures (with_words OfNames wanted) (c.as_slice-3.ensures.value ∙ c.in_ok-names.ensures) in
    c.in_ok-names.ensures
    ∙ sym (ap₂ (λ (a b : Bool). kept_by (by_tests wanted a b (passes 8 (with_words OfNames wanted)))) (sym all ∙ c.if-fits.false) (sym fields ∙ c.if-fits-2.false)
    ∙ ap (λ (d : Bool). kept_by (by_tests wanted false false d)) (sym names ∙ c.if-fits-3.true))

pub returns : goal.returns
returns c words is =
    let limits = c.args.limits.now in
    let width = c.args.width in
    let table : TableValue = c.args.contents.now.table in
    let wanted : Wanted = record { nowrap = c.args.nowrap.now; words = words } in
    let kept_by : Wanted → List ℕ = λ u. by_columns (min_width u table) table in
    let passes : ℕ → Wanted → Bool = λ level u. nat_le (bounded_width limits level u table) width in
    let all : c.fits.result ≡ passes width wanted = c.fits.ensures wanted (c.as_slice.ensures.value ∙ is) in
    let fields : c.fits-2.result ≡ passes 8 (with_words OfFields wanted) = c.fits-2.ensures (with_words OfFields wanted) (c.as_slice-2.ensures.value ∙ c.in_ok-fields.ensures) in
    let names : c.fits-3.result ≡ passes 8 (with_words OfNames wanted) = c.fits-3.ensures (with_words OfNames wanted) (c.as_slice-3.ensures.value ∙ c.in_ok-names.ensures) in
    is
    ∙ sym (ap₂ (λ (a b : Bool). kept_by (by_tests wanted a b (passes 8 (with_words OfNames wanted)))) (sym all ∙ c.if-fits.false) (sym fields ∙ c.if-fits-2.false)
    ∙ ap (λ (d : Bool). kept_by (by_tests wanted false false d)) (sym names ∙ c.if-fits-3.false))
