-- Beginnings that aren't enough, whatever their records are.
use Rattle.std.proofs.Common.{All, ◌≡◌, ◌≢◌, ◌<◌, ◌≤◌, ℕ, List, [], ◌∷◌, Some, None, Option, MatchOption, map, ◌++◌, length, sym, refl, ap, ap₂, ◌∙◌, subst, arith}
use Rattle.std.proofs.lemmas.List.Elements.{All-head, All-tail}
use Rattle.comfy_parts.specs.Text.{Text}
use Rattle.csv.specs.Machine.{Read, next_record}
use Rattle.csv.specs.Reading.{AreRecords, Reached, strip_bom}
use Rattle.csv.specs.Records.{AllText}
use Rattle.csv.specs.declared.parser.Config.{Config}
use Rattle.csv.specs.declared.parser.State.{State}
use Rattle.csv.specs.declared.parser.State.TheVariants as st
use Rattle.csv_records.proofs.OneRecordLemmas.{records_are_one, text_is_one}
use Rattle.csv_records.specs.Beginning.{IsEnough}
use Rattle.csv_records.specs.Encoding.{IsDecoded, IsRefusedIn, encoding_of}
use Rattle.csv_records.specs.Input.{config_for}
use Rattle.csv_records.specs.Reading.{AreRecordsIn, IsDecodedBy, IsTextWithoutRecords, IsWithoutText, parted, reads_quotes}
use Rattle.csv_records.specs.declared.encoding.Encoding.{Encoding}
use Rattle.csv_records.specs.declared.encoding.Encoding.TheVariants.{Cp1252, Utf16, Utf8}
use Rattle.csv_records.specs.declared.error.DecodeError.{DecodeError}
use Rattle.csv_records.specs.declared.error.DecodeError.TheVariants as decode
use Rattle.csv_records.specs.declared.error.RecordsError.{RecordsError}
use Rattle.csv_records.specs.declared.error.RecordsError.TheVariants as records
use Rattle.csv_records.specs.declared.not_text.NotText.{NotText}
use Rattle.csv_records.specs.declared.options.InputOptions.{InputOptions}

-- ---- texts

-- no `None` is in a list of characters alone
all_paired : (all before : List ℕ) (after : List (Option ℕ)) → map Some all ≡ map Some before ++ (None ∷ after) → ⊥
all_paired [] [] after is = cc is
all_paired [] (b ∷ before) after is = cc is
all_paired (c ∷ all) [] after is = cc is
all_paired (c ∷ all) (b ∷ before) after is =
    let rest : map Some all ≡ map Some before ++ (None ∷ after) = cc is in
    all_paired all before after rest

-- an input that has a text is refused only for lack of memory
refused_in : (encoding : Encoding) (skip : ℕ) (input text : Text) (e : DecodeError) → e ≢ decode.OutOfMemory → IsRefusedIn encoding skip input e → IsDecoded encoding skip input text → ⊥
refused_in Utf8 skip input text (decode.NotUtf8 line may_be) other why is = why.no_text is.0
refused_in Utf8 skip input text (decode.NotUtf16 line) other why is = why
refused_in Utf8 skip input text (decode.NotText what) other why is = why
refused_in Utf8 skip input text decode.OutOfMemory other why is = why
refused_in Cp1252 skip input text e other why is = other why
refused_in Utf16 skip input text (decode.NotUtf16 line) other why is = all_paired is.characters why.before why.after (sym is.are_all ∙ why.first)
refused_in Utf16 skip input text (decode.NotUtf8 line may_be) other why is = why
refused_in Utf16 skip input text (decode.NotText what) other why is = why
refused_in Utf16 skip input text decode.OutOfMemory other why is = other refl

pub without_text : (options : InputOptions) (input text : Text) (e : DecodeError) → e ≢ decode.OutOfMemory → IsWithoutText options input e → IsDecodedBy options input text → ⊥
without_text options input text e other why is =
    refused_in (encoding_of options.encoding input) options.skip input text e other (by_sign _ is.is_text why) is.is_decoded
  where
    by_sign : (sign : Option NotText) → sign ≡ None → MatchOption sign (IsRefusedIn (encoding_of options.encoding input) options.skip input e) (λ what. e ≡ decode.NotText what) → IsRefusedIn (encoding_of options.encoding input) options.skip input e
    by_sign None none why = why
    by_sign (Some what) none why = absurd (cc none)

-- ---- records

-- a record that is read after some records is one of all records
read_next : (config : Config) (state : State) (input : Text) (before all : List (List Text)) (end : State) (rest : Text) (next : Read) → Reached config state input before end rest → AreRecords config state input all → next_record config end [] [] rest ≡ Some next
    → All AllText all → AllText next.0
unfolding Reached
read_next config state input [] [] end rest next (same, left) (last, none, (same', left'), no_more) is texts =
    absurd (let here : next_record config end [] [] rest ≡ None = ap₂ (λ (s : State) (t : Text). next_record config s [] [] t) (sym same ∙ same') (sym left ∙ left') ∙ no_more in cc (here, is))
read_next config state input [] (own ∷ all) end rest next (same, left) (last, none, (p, found, at, more), no_more) is texts =
    let here : next_record config state [] [] input ≡ Some next = ap₂ (λ (s : State) (t : Text). next_record config s [] [] t) same left ∙ is in
    let one : p ≡ next = cc (here, found) in
    subst AllText (at ∙ ap (λ (r : Read). r.0) one) (All-head AllText own all texts)
read_next config state input (b ∷ before) [] end rest next (p, found, at, more) (last, none, (same, left), no_more) is texts =
    absurd (let here : next_record config state [] [] input ≡ None = ap₂ (λ (s : State) (t : Text). next_record config s [] [] t) same left ∙ no_more in cc (here, found))
read_next config state input (b ∷ before) (own ∷ all) end rest next (p, found, at, more) (last, none, (q, found', at', more'), no_more) is texts =
    let same : q ≡ p = cc (found, found') in
    read_next config p.1 p.2 before all end rest next more (subst (λ (r : Read). AreRecords config r.1 r.2 all) same (last, none, more', no_more)) is (All-tail AllText own all texts)

-- a text that has records is refused only for lack of memory
pub without_records : (options : InputOptions) (text : Text) (e : RecordsError) (all : List (List Text)) → e ≢ records.OutOfMemory → IsTextWithoutRecords options text e → AreRecordsIn options text all → ⊥
without_records options text (records.Unclosed line) all other why are = are.is_closed why.has_quotes why.is_unclosed.is_open
without_records options text records.SplitCharacter all other why are = why.is_no_text (read_next _ _ _ why.before all why.state why.rest why.next why.reached are.are_records.all why.is_next are.are_records.are_text)
without_records options text records.OutOfMemory all other why are = other refl

-- ---- beginnings

module _ (options : InputOptions) (most : ℕ) (lines text : Text) (is_text : IsDecodedBy options lines text) where
  same_text : (all : List (List Text)) (enough : IsEnough options most lines all) → enough.text ≡ text
  same_text all enough = text_is_one (encoding_of options.encoding lines) options.skip lines enough.text text enough.is_text.is_decoded is_text.is_decoded

  same_records : (all : List (List Text)) → IsEnough options most lines all → AreRecordsIn options text all
  same_records all enough = subst (λ (t : Text). AreRecordsIn options t all) (same_text all enough) enough.are_records

  pub none_recorded : ((all : List (List Text)) → ¬ (AreRecordsIn options text all)) → (all : List (List Text)) → ¬ (IsEnough options most lines all)
  none_recorded none all enough = none all (same_records all enough)

  pub none_more : (own : List (List Text)) → AreRecordsIn options text own → length own ≤ most → (all : List (List Text)) → ¬ (IsEnough options most lines all)
  none_more own are few all enough =
      let same : own ≡ all = records_are_one (config_for (parted options text).0 (reads_quotes options)) st.StartRecord (strip_bom (parted options text).1) own all are.are_records.all (same_records all enough).are_records.all in
      let long : most < length own = subst (λ (rs : List (List Text)). most < length rs) (sym same) enough.more in
      omega (arith, long, few)
