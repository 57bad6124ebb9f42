-- If spaces aren't the delimiter, the text itself is read, with quotes or without.
use Rattle.std.proofs.Common.{◌≡◌, ◌≢◌, ◌∙◌, Bool, Option, ap, true, refl}
use Rattle.comfy_parts.specs.Text.{Text}
use Rattle.csv_records.specs.Delimiter.{delimited, shows_delimiter}
use Rattle.csv_records.specs.Longer.{unless_spaces}
use Rattle.csv_records.specs.Reading.{counts_quotes, parted, read_text}
use Rattle.csv_records.specs.declared.delimiter.Delimiter.{Delimiter}
use Rattle.csv_records.specs.declared.delimiter.Delimiter.TheVariants.{Auto, Byte, NamedOrTab, Spaces}
use Rattle.csv_records.specs.declared.options.InputOptions.{InputOptions}

pub plain_text : (h : Bool) (d : Delimiter) (text : Text) → d ≢ Spaces → read_text h d text ≡ text
plain_text h (Byte b) text other = refl
plain_text h Auto text other = refl
plain_text h NamedOrTab text other = refl
plain_text h Spaces text other = absurd (other refl)

pub plain_quotes : (d : Delimiter) (q : Bool) → d ≢ Spaces → counts_quotes d q ≡ q
plain_quotes (Byte b) q other = refl
plain_quotes Auto q other = refl
plain_quotes NamedOrTab q other = refl
plain_quotes Spaces q other = absurd (other refl)

-- the delimiter and the part with the records are then those of the text itself
pub plain_parted : (options : InputOptions) (text : Text) → options.delimiter ≢ Spaces → parted options text ≡ delimited options.delimiter options.has_quotes text
plain_parted options text other =
    let d = options.delimiter in
    ap (λ (q : Bool). delimited d q (read_text options.has_header d text)) (plain_quotes d options.has_quotes other)
    ∙ ap (λ (t : Text). delimited d options.has_quotes t) (plain_text options.has_header d text other)

pub plain_longer : {T : Type 0} (d : Delimiter) (longer : Option T) → d ≢ Spaces → unless_spaces d longer ≡ longer
plain_longer (Byte b) longer other = refl
plain_longer Auto longer other = refl
plain_longer NamedOrTab longer other = refl
plain_longer Spaces longer other = absurd (other refl)

-- no beginning of a text with spaces between its fields is enough
pub no_spaces : (d : Delimiter) (q : Bool) (text : Text) → shows_delimiter d q text ≡ true → d ≢ Spaces
no_spaces d q text shows same = by_delimiter (rw same at shows)
  where
    by_delimiter : shows_delimiter Spaces q text ≡ true → ⊥
    by_delimiter is = absurd (cc is)
