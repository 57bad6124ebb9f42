-- An input has only one text for the same options, and a text only one list of records.
use Rattle.std.proofs.Common.{◌≡◌, ℕ, List, [], ◌∷◌, Some, None, map, sym, refl, ap, ap₂, ◌∙◌, subst}
use Rattle.std.specs.Str.{encode_utf8_all}
use Rattle.comfy_parts.specs.Text.{Text}
use Rattle.csv.specs.Machine.{Read, next_record}
use Rattle.csv.specs.Reading.{AreRecords, Reached, strip_bom}
use Rattle.csv.specs.declared.parser.Config.{Config}
use Rattle.csv.specs.declared.parser.State.{State}
use Rattle.csv.specs.declared.parser.State.TheVariants as st
use Rattle.csv_records.specs.Encoding.{IsDecoded, encoding_of}
use Rattle.csv_records.specs.Input.{config_for}
use Rattle.csv_records.specs.Reading.{RecordsAreOne, parted, reads_quotes}
use Rattle.csv_records.specs.declared.encoding.Encoding.{Encoding}
use Rattle.csv_records.specs.declared.encoding.Encoding.TheVariants.{Cp1252, Utf16, Utf8}
use Rattle.csv_records.specs.declared.options.InputOptions.{InputOptions}

-- ---- records

-- only one record can be read next, so there is only one list of records
pub records_are_one : (config : Config) (state : State) (input : Text) (records others : List (List Text)) → AreRecords config state input records → AreRecords config state input others → records ≡ others
unfolding Reached
records_are_one config state input [] [] first second = refl
records_are_one config state input [] (other ∷ others) (end, rest, (same, all), none) (end', rest', (p, is, at, more), none') =
    absurd (let here : next_record config state [] [] input ≡ None = ap₂ (λ s t. next_record config s [] [] t) same all ∙ none in cc (here, is))
records_are_one config state input (own ∷ records) [] (end, rest, (p, is, at, more), none) (end', rest', (same, all), none') =
    absurd (let here : next_record config state [] [] input ≡ None = ap₂ (λ s t. next_record config s [] [] t) same all ∙ none' in cc (here, is))
records_are_one config state input (own ∷ records) (other ∷ others) (end, rest, (p, is, at, more), none) (end', rest', (q, are, at', more'), none') =
    let same : p ≡ q = same_read p q (sym is ∙ are) in
    ap₂ (λ (r : List Text) (rs : List (List Text)). r ∷ rs) (at ∙ ap (λ (r : Read). r.0) same ∙ sym at')
    (records_are_one config p.1 p.2 records others (end, rest, more, none) (subst (λ (r : Read). AreRecords config r.1 r.2 others) (sym same) (end', rest', more', none')))
  where
    same_read : (p q : Read) → Some p ≡ Some q → p ≡ q
    same_read p q is = cc is

-- ---- texts

some_each : (cs ds : List ℕ) → map Some cs ≡ map Some ds → cs ≡ ds
some_each [] [] is = refl
some_each [] (d ∷ ds) is = absurd (cc is)
some_each (c ∷ cs) [] is = absurd (cc is)
some_each (c ∷ cs) (d ∷ ds) is =
    let first : c ≡ d = cc is in
    let rest : map Some cs ≡ map Some ds = cc is in
    ap₂ (λ (a : ℕ) (b : List ℕ). a ∷ b) first (some_each cs ds rest)

pub text_is_one : (encoding : Encoding) (skip : ℕ) (input text other : Text) → IsDecoded encoding skip input text → IsDecoded encoding skip input other → text ≡ other
text_is_one Utf8 skip input text other first second = first.1 ∙ sym second.1
text_is_one Cp1252 skip input text other first second = first ∙ sym second
text_is_one Utf16 skip input text other first second =
    first.spell ∙ ap encode_utf8_all (some_each first.characters second.characters (sym first.are_all ∙ second.are_all)) ∙ sym second.spell

-- ---- records of an input

pub read_is_one : (options : InputOptions) (input : Text) (records others : List (List Text)) → RecordsAreOne options input records others
read_is_one options input records others first second =
    records_are_one (config_for (parted options first.text).0 (reads_quotes options)) st.StartRecord (strip_bom (parted options first.text).1) records others first.are_records.are_records.all
    (subst (λ (t : Text). AreRecords (config_for (parted options t).0 (reads_quotes options)) st.StartRecord (strip_bom (parted options t).1) others) (sym same) second.are_records.are_records.all)
  where
    same : first.text ≡ second.text
    same = text_is_one (encoding_of options.encoding input) options.skip input first.text second.text first.is_text.is_decoded second.is_text.is_decoded
