-- Records that have more fields than the first record.
use Rattle.std.proofs.Common.{◌≡◌, ◌≢◌, ◌-◌, ◌∙◌, ℕ, Bool, List, None, Some, ap, length, sym, take}
use Rattle.std.specs.List.{position}
use Rattle.std.specs.Option.{option_map}
use Rattle.comfy_parts.specs.Text.{Text}
use Rattle.csv.specs.Reading.{strip_bom}
use Rattle.csv_records.specs.Delimiter.{delimited}
use Rattle.csv_records.specs.Input.{config_for, line_number}
use Rattle.csv_records.specs.Longer.{skip_records, is_longer, line_of_record, longer_at, longer_by, longer_records}
use Rattle.csv_records.specs.Reading.{parted}
use Rattle.csv_records.specs.declared.delimiter.Delimiter.TheVariants.{Spaces}
use Rattle.csv_records.specs.declared.options.InputOptions.{InputOptions}
use Rattle.csv_records.proofs.ReadTextLemmas.{plain_parted, plain_quotes, plain_longer}

module _ (options : InputOptions) (text : Text) (other : options.delimiter ≢ Spaces) where
  -- the line of a record, given the delimiter and the part of the text with its records
  abbrev pub line : ℕ → Text → Bool → ℕ → ℕ
  line delimiter rest has_quotes before =
      line_number options.skip (take (length text - length (skip_records (config_for delimiter has_quotes) before (strip_bom rest))) text)

  pub line_is : (delimiter : ℕ) (rest : Text) (before : ℕ) → delimiter ≡ (delimited options.delimiter options.has_quotes text).0 → rest ≡ (delimited options.delimiter options.has_quotes text).1
      → line delimiter rest options.has_quotes before ≡ line_of_record options text before
  line_is delimiter rest before byte after =
      let parts = plain_parted options text other in
      let found = parted options text in
      ap (λ (d : ℕ). line d rest options.has_quotes before) (byte ∙ ap (λ (p : ℕ × Text). p.0) (sym parts))
      ∙ ap (λ (r : Text). line found.0 r options.has_quotes before) (after ∙ ap (λ (p : ℕ × Text). p.1) (sym parts))
      ∙ ap (λ (q : Bool). line found.0 found.1 q before) (sym (plain_quotes options.delimiter options.has_quotes other))

  module _ (records : List (List Text)) where
    pub none_longer : None ≡ position (is_longer records) records → None ≡ longer_records options text records
    none_longer is = ap (option_map (longer_at (line_of_record options text) records)) is ∙ sym (plain_longer options.delimiter (longer_by (line_of_record options text) records) other)

    pub some_longer : (at : ℕ) → Some at ≡ position (is_longer records) records → Some (longer_at (line_of_record options text) records at) ≡ longer_records options text records
    some_longer at is = ap (option_map (longer_at (line_of_record options text) records)) is ∙ sym (plain_longer options.delimiter (longer_by (line_of_record options text) records) other)
